-- "When, and only then": what the number of a call's answer says of its opening. Every call but start answers by the opened header, so these hold for each of them.
use Rattle.std.proofs.Math.Path.{◌≡◌, sym, ap}
use Rattle.std.specs.Prelude.{refl, List, ◌≢◌, ◌↔◌, ◌⊎◌, Bool, true, ℕ, length, Err, Ok, Result}
use Rattle.std.proofs.Common.{◌∙◌, inl, inr, true≢false, arith}
use Rattle.std.proofs.Math.Bool.{false}
use Rattle.records.specs.declared.Header.{Header}
use Rattle.records.specs.declared.Refusal.{Refusal}
use Rattle.records.specs.declared.Refusal.TheVariants as no
use Rattle.records.specs.Records.{header_of}
use Rattle.inspection.specs.Tests.{shape_ok, top_ok}
use Rattle.inspection.specs.Opening.{open_shaped, open_of}
use Rattle.records.specs.Numbers.{refusal_number}

-- the three ways in which an opening goes
pub data OpensAs (m n : ℕ) (ws : List ℕ) : Type 0 where
  misshapen : shape_ok m n (length ws) ≡ false → open_of m n ws ≡ Err no.Shape → OpensAs m n ws
  unsound : shape_ok m n (length ws) ≡ true → top_ok m n ws ≡ false → open_of m n ws ≡ Err no.Damaged → OpensAs m n ws
  sound : (h : Header) → shape_ok m n (length ws) ≡ true → top_ok m n ws ≡ true → open_of m n ws ≡ Ok h → OpensAs m n ws

pub opens : (m n : ℕ) (ws : List ℕ) → OpensAs m n ws
unfolding open_of open_shaped
opens m n ws = go (shape_ok m n (length ws)) (top_ok m n ws) refl refl
  where
    go : (a b : Bool) → shape_ok m n (length ws) ≡ a → top_ok m n ws ≡ b → OpensAs m n ws
    go false b p q = misshapen p (rw p)
    go true false p q = unsound p q (rw (p, q))
    go true true p q = sound (header_of n ws) p q (rw (p, q))

-- A call's number, as a function of the opening: a shut image gives its refusal's number.
module _ (f : Result Header Refusal → ℕ) (shut : (r : Refusal) → f (Err r) ≡ refusal_number r) (m n : ℕ) (ws : List ℕ) where
  -- 1 exactly if the shape is not right, where no opened image answers 1
  pub shape_exactly : ((h : Header) → f (Ok h) ≢ 1) → (f (open_of m n ws) ≡ 1) ↔ (shape_ok m n (length ws) ≡ false)
  unfolding refusal_number
  shape_exactly never = (λ e. only (opens m n ws) e, λ p. when (opens m n ws) p)
    where
      only : OpensAs m n ws → f (open_of m n ws) ≡ 1 → shape_ok m n (length ws) ≡ false
      only (misshapen p q) e = p
      only (unsound p q o) e = let z : ◌≡◌ {A = ℕ} 2 1 = sym (shut no.Damaged) ∙ sym (ap f o) ∙ e in absurd (omega arith)
      only (sound h p q o) e = absurd (never h (sym (ap f o) ∙ e))

      when : OpensAs m n ws → shape_ok m n (length ws) ≡ false → f (open_of m n ws) ≡ 1
      when (misshapen p q) e = ap f q ∙ shut no.Shape
      when (unsound p q o) e = absurd (true≢false (sym p ∙ e))
      when (sound h p q o) e = absurd (true≢false (sym p ∙ e))

  -- 2 exactly if the header fails in a right shape, or the opened image answers it
  pub damage_exactly : (f (open_of m n ws) ≡ 2)
      ↔ (((shape_ok m n (length ws) ≡ true) × (top_ok m n ws ≡ false)) ⊎ ((h : Header) × (open_of m n ws ≡ Ok h) × (f (Ok h) ≡ 2)))
  unfolding refusal_number
  damage_exactly = (λ e. only (opens m n ws) e, λ p. when (opens m n ws) p)
    where
      Cause : Type 0
      Cause = ((shape_ok m n (length ws) ≡ true) × (top_ok m n ws ≡ false)) ⊎ ((h : Header) × (open_of m n ws ≡ Ok h) × (f (Ok h) ≡ 2))

      only : OpensAs m n ws → f (open_of m n ws) ≡ 2 → Cause
      only (misshapen p q) e = let z : ◌≡◌ {A = ℕ} 1 2 = sym (shut no.Shape) ∙ sym (ap f q) ∙ e in absurd (omega arith)
      only (unsound p q o) e = inl (p, q)
      only (sound h p q o) e = inr (h, o, sym (ap f o) ∙ e)

      when : OpensAs m n ws → Cause → f (open_of m n ws) ≡ 2
      when (misshapen p q) (inl c) = absurd (true≢false (sym c.0 ∙ p))
      when (unsound p q o) (inl c) = ap f o ∙ shut no.Damaged
      when (sound h p q o) (inl c) = absurd (true≢false (sym q ∙ c.1))
      when s (inr c) = ap f c.1 ∙ c.2

  -- any other number exactly if the opened image answers it
  pub other_exactly : (k : ℕ) → k ≢ 1 → k ≢ 2 → (f (open_of m n ws) ≡ k) ↔ ((h : Header) × (open_of m n ws ≡ Ok h) × (f (Ok h) ≡ k))
  unfolding refusal_number
  other_exactly k one two = (λ e. only (opens m n ws) e, λ c. ap f c.1 ∙ c.2)
    where
      only : OpensAs m n ws → f (open_of m n ws) ≡ k → (h : Header) × (open_of m n ws ≡ Ok h) × (f (Ok h) ≡ k)
      only (misshapen p q) e = absurd (one (sym (sym (shut no.Shape) ∙ sym (ap f q) ∙ e)))
      only (unsound p q o) e = absurd (two (sym (sym (shut no.Damaged) ∙ sym (ap f o) ∙ e)))
      only (sound h p q o) e = (h, o, sym (ap f o) ∙ e)
