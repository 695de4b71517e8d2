-- What contracts see of faces.
use Rattle.face_nesting.specs.declared.nesting.Faces.TheInside.{Inside}
use Rattle.face_nesting.specs.Numbering.{face_numbers_of}
use Rattle.nest_base.specs.NumberLists.{parent_numbers, side_numbers}
use Rattle.face_nesting.specs.Nesting.{Nesting}

abbrev pub nesting_view : Inside → Nesting
nesting_view f = record {
  faces = face_numbers_of f.face_list.items;
  count = f.number_of_faces;
  ranks = f.rank_list.items;
  parents = parent_numbers f.parent_list.items;
  sides = side_numbers f.sides.items;
  starts = f.starts.items;
}
