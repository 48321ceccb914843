-- An image whose shape, padding and header keep the rules is opened, and so is every accepted one.
use Rattle.std.specs.Prelude.{◌≡◌, List, ℕ, length, Ok}
use borrow.Author.Tests.{eq-eqb}
use Rattle.records.specs.Records.{header_of, front_of, spare_of}
use Rattle.inspection.specs.Tests.{top_ok}
use Rattle.inspection.specs.Opening.{open_shaped, open_of}
use Rattle.inspection.specs.Room.{Shaped}
use Rattle.accepted.specs.Rules.{HeaderRules}
use Rattle.accepted.specs.Accepted.{Accepted}
use Rattle.accepted.specs.Tests.{header_passes, shape_passes}

-- an image whose shape, padding and header keep the rules is opened
pub opened : (m n : ℕ) (ws : List ℕ) → Shaped m n (length ws) → front_of ws ≡ 0 → spare_of ws ≡ 0 → HeaderRules m n (header_of n ws)
    → open_of m n ws ≡ Ok (header_of n ws)
unfolding open_of open_shaped top_ok
opened m n ws s front spare r =
    rw (shape_passes s, eq-eqb (front_of ws) 0 front, eq-eqb (spare_of ws) 0 spare, header_passes m n (header_of n ws) r)

pub accepted_opens : {m n : ℕ} {ws : List ℕ} → Accepted m n ws → open_of m n ws ≡ Ok (header_of n ws)
accepted_opens {m} {n} {ws} a = opened m n ws a.shape a.front a.spare a.header
