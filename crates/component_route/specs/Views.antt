-- What contracts see of a route.
use Rattle.std.specs.Prelude.{◌≤◌, reverse, vec_capacity}
use Rattle.nest_base.specs.NumberLists.{side_numbers}
use Rattle.component_route.specs.declared.route.Route.TheInside.{Inside}
use Rattle.component_route.specs.Courses.{Course}

abbrev pub course_view : Inside → Course
course_view r = record { done = side_numbers r.done.items; stack = reverse (side_numbers r.stack.items); room = r.room }

abbrev pub HasRoom : Inside → Type 0
HasRoom r = (r.room ≤ vec_capacity r.done) × (r.room ≤ vec_capacity r.stack)
