-- The theorems that rest on another theorem of this crate that a wrong definition breaks (must-fail/). In specs/ they would go unchecked then, and the edit would count as one that cannot be read.
pub mod Program
