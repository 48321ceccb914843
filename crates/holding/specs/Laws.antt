-- Laws of a listing that holds its image: a refused image is refused at each step, with the refusal that opening gives, and the listing stays where it is.
use Rattle.std.specs.Prelude.{◌≡◌, refl, List, Bool, true, false, ℕ, length, Err, Ok, Result}
use Rattle.std.proofs.Common.{sym, ap, ◌∙◌}
use Rattle.std.specs.Borrow.{Bor}
use Rattle.records.specs.declared.Header.{Header}
use Rattle.records.specs.declared.Refusal.{Refusal}
use Rattle.records.specs.declared.Refusal.TheVariants as no
use Rattle.records.specs.Layout.{image_of}
use Rattle.inspection.specs.Opening.{open_of}
use Rattle.inspection.specs.Tests.{shape_ok}
use Rattle.listing.specs.Position.{opened_made, made_of}
use Rattle.listing.specs.Step.{opened_step, refused_step, step_of}
use Rattle.holding.specs.Held.{begun, held_step, moved_on}

abbrev refusal_of : Result Header Refusal → Refusal
refusal_of (Ok h) = no.Shape
refusal_of (Err r) = r

-- an image of another shape is refused for its shape
shape_shut : (m n : ℕ) (ws : List ℕ) → shape_ok m n (length ws) ≡ false → open_of m n ws ≡ Err no.Shape
unfolding open_of
shape_shut m n ws s = simp s

-- a step of a refused image, at the position that making it gave
stays_refused : (back : Bool) (m n : ℕ) (ws : List ℕ) (r : Refusal) → open_of m n ws ≡ Err r → step_of back m n ws (made_of m n ws).position ≡ refused_step (made_of m n ws).position r
unfolding step_of made_of opened_made opened_step
stays_refused back m n ws r e = by_shape (shape_ok m n (length ws)) refl
  where
    by_shape : (b : Bool) → shape_ok m n (length ws) ≡ b → step_of back m n ws (made_of m n ws).position ≡ refused_step (made_of m n ws).position r
    by_shape true s = simp (s, e)
    by_shape false s = let same : no.Shape ≡ r = ap refusal_of (sym (shape_shut m n ws s) ∙ e) in simp (s, same)

pub refused_again : (back : Bool) (image : Bor (List ℕ)) (m n : ℕ) (r : Refusal) → open_of m n (image_of image.now) ≡ Err r → held_step back (begun image m n) ≡ refused_step (begun image m n).position r
refused_again back image m n r e = stays_refused back m n (image_of image.now) r e

-- so a step of it changes nothing, and the next one is refused too
pub refused_stays : (back : Bool) (image : Bor (List ℕ)) (m n : ℕ) (r : Refusal) → open_of m n (image_of image.now) ≡ Err r → moved_on back (begun image m n) ≡ begun image m n
refused_stays back image m n r e = λ i. record { image = image; m = m; n = n; position = (refused_again back image m n r e i).position }
