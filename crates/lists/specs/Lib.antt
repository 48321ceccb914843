-- The ascending list of keys and values, and its own machine: what each call answers and leaves, with nothing of trees, words or records' places in it. Machine is the page to read; Entries and Answers
-- have what it names, Examples what it computes on short histories. Lists has laws of lists that the proofs above use.
pub mod Lists
pub mod Entries
pub mod Answers
pub mod Machine
pub mod Examples
