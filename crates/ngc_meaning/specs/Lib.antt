pub mod CodeMoves
pub mod Bare
pub mod Numbers
pub mod Blocks
pub mod Contents
pub mod Machines
pub mod Refusals
