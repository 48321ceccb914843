-- `all::put_all` meets its contract. The loop's invariant: what is written so far, and the rest of the listing behind it, are the whole text. Assumes nothing.
use mathlib.Core.Path.{◌≡◌}
use mathlib.Core.List.{List, ◌++◌}
use Prim.Native.Nat.{ℕ, ◌-◌, ◌+◌, ◌*◌}
use lib.ListN.{length}
use Rattle.records.specs.Layout.{image_of}
use Rattle.texts.specs.Put.{Written}
use Rattle.commands.specs.Answers.{list_text}
use Rattle.commands.proofs.all.put_all.Given as goal

abbrev pub invariant-loop-count : goal.invariant-loop-count
invariant-loop-count l = (l.place ≡ l.at + 66 * l.count) × (length l.out ≡ length l.initial.out) × ((s : List ℕ) × Written l.initial.out l.out l.at l.place s × (s ++ list_text 256 512 (image_of l.img) (256 - l.count) l.p l.count ≡ list_text 256 512 (image_of l.img) 256 l.initial.p 0))
