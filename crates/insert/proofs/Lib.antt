-- Lemmas that the functions of `insert` go by.
mod Root
