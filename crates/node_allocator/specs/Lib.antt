-- What the contracts of `node_allocator` cite; the laws of its steps are `arena_laws`.
pub mod Layout
pub mod Steps
pub mod Room
