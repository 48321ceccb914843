-- What every call but start tests first: the shape, then the header (rule R7). And what start and every call that wants a blank image tests: the shape,
-- then that every word is 0.
use Rattle.std.specs.Prelude.{List, cond, ℕ, length, Err, Ok, Result}
use Rattle.records.specs.declared.Refusal.{Refusal}
use Rattle.records.specs.declared.Header.{Header}
use Rattle.words.specs.Zeros.{zeros_at}
use Rattle.records.specs.declared.Refusal.TheVariants as no
use Rattle.records.specs.Records.{header_of}
use Rattle.inspection.specs.Tests.{shape_ok, top_ok}

-- the header of an image of the right shape
unfoldable pub open_shaped : ℕ → ℕ → List ℕ → Result Header Refusal
open_shaped m n ws = cond (top_ok m n ws) (Ok (header_of n ws)) (Err no.Damaged)

-- the shape, then the header
unfoldable pub open_of : ℕ → ℕ → List ℕ → Result Header Refusal
open_of m n ws = cond (shape_ok m n (length ws)) (open_shaped m n ws) (Err no.Shape)

-- the shape, then blank
unfoldable pub blank_of : ℕ → ℕ → List ℕ → Result Unit Refusal
blank_of m n ws =
    cond (shape_ok m n (length ws)) (cond (zeros_at ws 0 (length ws)) (Ok tt) (Err no.NotBlank)) (Err no.Shape)
