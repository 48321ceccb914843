-- What a passed test tells: a chain of tests joined by `&&` gives each of them, and one joined by `||` gives one. The crates above take their facts out of tests by these.
use Rattle.std.specs.Prelude.{◌≡◌, refl, Bool, true, false, ◌&&◌, ◌||◌, not, cond, ◌⊎◌}
use Rattle.std.specs.Bool.{beq}
use Rattle.std.proofs.lemmas.Bool.{false≢true}
use Rattle.std.proofs.Common.{inl, inr}

pub and_l : (a b : Bool) → a && b ≡ true → a ≡ true
and_l true b e = refl
and_l false b e = e

pub and_r : (a b : Bool) → a && b ≡ true → b ≡ true
and_r true b e = e
and_r false b e = absurd (false≢true e)

pub or_cases : (a b : Bool) → a || b ≡ true → (a ≡ true) ⊎ (b ≡ true)
or_cases true b e = inl refl
or_cases false b e = inr e

pub not-true : (a : Bool) → not a ≡ true → a ≡ false
not-true true e = absurd (false≢true e)
not-true false e = refl

-- two tests that agree
pub beq_equal : (a b : Bool) → beq a b ≡ true → a ≡ b
beq_equal true true e = refl
beq_equal true false e = absurd (false≢true e)
beq_equal false true e = absurd (false≢true e)
beq_equal false false e = refl

pub beq_itself : (a : Bool) → beq a a ≡ true
beq_itself true = refl
beq_itself false = refl

-- a property that both ways have
pub either_way : {A : Type 0} (P : A → Type 0) (b : Bool) (x y : A) → P x → P y → P (cond b x y)
either_way P true x y p q = p
either_way P false x y p q = q
