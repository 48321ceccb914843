-- Lemmas that the functions of `remove` go by.
mod Root
