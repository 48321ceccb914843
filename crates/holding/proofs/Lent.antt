-- A local that holds a value of a type at the lifetime κ, as a struct that holds a `&κ`, is lent by `&mut` for a call, and comes back. It says nothing of the crate, and can be copied as it stands.
-- The loan's lifetime is to end before κ does, so it is ν ∷ κ, the meet of κ and of a lifetime ν that is made for the call. Its token is made of a share of ν's, carved out of the whole, and the left half of κ's; the right half goes to the callee as κ's own.
--     Loan         what the lender keeps: the lender's part, and the way back to ν's whole token
--     bounded      ν ∷ κ ends no later than κ, as the callee's signature asks
--     lends        h lies at (b, o) ∗ [κ]_q  ⊢ ⇛ ∃ ν γ. own (the `&(ν ∷ κ) mut T` ((b, o), γ, h)) ∗ [ν ∷ κ]_left ∗ [κ]_right ∗ Loan ν γ
--     back         [ν ∷ κ]_left ∗ [κ]_right ∗ Loan ν γ ∗ res γ y  ⊢ ⇛ (y lies at (b, o) ∗ [κ]_q)
-- Assumes `Logic`, and that the type's relation tells its machine values.
use Prim.Native.Nat.{ℕ}
use mathlib.Core.List.{List, [], ◌∷◌}
use seplogic.Ra.Ura.{Ura}
use base.Share
use base.Fraction.{full_share}
use mir.Syntax.{Lifetime}
use mir.Val.{Val, vptr}
use base.Logic.{SProp, ent, sep, ex, wand, apply∗}
use base.Fml.{Lft, GName, Share, fsep, flft, fdead, fres, flent}
use types.Logic.{Logic, sem}
use types.Kit.{‵, raw, ◌⊛◌, some, later, ◌$◌, ◌∵◌, !, qed, move, use1, use2, use3, split, pick, fsplit, fjoin, fpick, fpack, frame, await, updating, now as at_once, show, done}
use types.Tokens.{lft_new, lft_end}
use types.SemTy.{Body}
use contract.BorrowLft.{◌⊑◌, meet_⊑_left, meet_⊑_right}
use denote.RattleType.{RattleType}
use denote.Laws.{Is, Tells, shows}
use denote.Memory.{cell_at, part_at, part_of, mem}
use denote.Ref.{MutBor, MutRef}
use denote.Lend.{lends_ref, ref_back}
use denote.Struct.Steps.{spelt}

pub bounded : (κ : Lft) (ν : ℕ) → ν ∷ κ ⊑ κ
bounded κ ν = meet_⊑_right (ν ∷ []) κ

module _ {M : Type 1} {𝓤 : Ura M} (𝓛 : Logic 𝓤) (R : RattleType) (κ : Lft) (q : Share) (b o : ℕ) where
  open 𝓛 use {H, A}

  abbrev pub lent_at : GName → R.Denot → MutBor R.Denot
  lent_at γ h = record { ref_ptr = (b, o); ghost_name = γ; now = h }

  abbrev Whole : ℕ → SProp 𝓤
  Whole ν = wand 𝓤 (A.lft (ν ∷ []) (Share.left q)) (A.lft (ν ∷ []) full_share)

  abbrev pub Loan : ℕ → GName → SProp 𝓤
  Loan ν γ = sep 𝓤 (A.lent (ν ∷ κ) (Body (mem R) b o γ)) (Whole ν)

  abbrev pub Lent : Lifetime → R.Denot → ℕ → GName → SProp 𝓤
  Lent ℓ h ν γ = sep 𝓤 (sem 𝓛 ((MutRef ℓ (ν ∷ κ) R).own_val (lent_at γ h) (vptr b o ∷ []))) (sep 𝓤 (A.lft (ν ∷ κ) (Share.left q)) (sep 𝓤 (A.lft κ (Share.right q)) (Loan ν γ)))

  pub lends : (ℓ : Lifetime) (h : R.Denot) (vs : List Val) → ent 𝓤 (sep 𝓤 (sem 𝓛 (cell_at full_share R.mir vs b o)) (sep 𝓤 (sem 𝓛 (R.own_val h vs)) (A.lft κ q))) (H.⇛ (ex 𝓤 (λ (ν : ℕ). ex 𝓤 (λ (γ : GName). Lent ℓ h ν γ))))
  unfolding part_of
  lends ℓ h vs =
      qed 𝓛 (‵ (cell_at full_share R.mir vs b o) ∷ ‵ (R.own_val h vs) ∷ ‵ (flft κ q) ∷ []) ∵ updating ! $ fjoin ! $ fpack ! (List Val) (λ us. fsep (cell_at full_share R.mir us b o) (R.own_val h us)) vs $
      lft_new ! tt (λ ν. use1 𝓛 (‵ (flft (ν ∷ []) (Share.left q)) ⊛ raw (Whole ν)) (𝓛.lfts.lft_carve ν (Share.left q)) $ split ! $
      -- [a share of ν's token; the way back; h lies there; κ's token]
      move ! (3 ∷ []) $ use1 𝓛 (‵ (flft κ (Share.left q)) ⊛ ‵ (flft κ (Share.right q))) (𝓛.lfts.lft_split κ q) $ split ! $
      move ! (2 ∷ 0 ∷ []) $ use2 𝓛 (‵ (flft (ν ∷ κ) (Share.left q))) (𝓛.lfts.lft_meet (ν ∷ []) κ (Share.left q)) $
      -- [the loan's token; κ's right half; the way back; h lies there]
      move ! (3 ∷ []) $ use1 𝓛 (later (some (λ (γ : GName). ‵ ((MutRef ℓ (ν ∷ κ) R).own_val (lent_at γ h) (vptr b o ∷ [])) ⊛ ‵ (flent (ν ∷ κ) (Body (mem R) b o γ))))) (lends_ref 𝓛 R ℓ (ν ∷ κ) h b o) $ await ! tt $ pick ! (λ γ. split ! $
      at_once ! $ show ! (λ (ν' : ℕ). ex 𝓤 (λ (γ' : GName). Lent ℓ h ν' γ')) ν $ show ! (λ (γ' : GName). Lent ℓ h ν γ') γ $ frame ! $ move ! (1 ∷ 2 ∷ 0 ∷ 3 ∷ []) $ done !))

  pub back : (vals : R.Denot → List Val) → Tells R (Is R) vals → (ν : ℕ) (γ : GName) (y : R.Denot)
      → ent 𝓤 (sep 𝓤 (A.lft (ν ∷ κ) (Share.left q)) (sep 𝓤 (A.lft κ (Share.right q)) (sep 𝓤 (Loan ν γ) (A.res γ (R.coded.code y)))))
      (H.⇛ (sep 𝓤 (sem 𝓛 (cell_at full_share R.mir (vals y) b o)) (sep 𝓤 (sem 𝓛 (R.own_val y (vals y))) (A.lft κ q))))
  unfolding part_of
  back vals tells ν γ y =
      qed 𝓛 (‵ (flft (ν ∷ κ) (Share.left q)) ∷ ‵ (flft κ (Share.right q)) ∷ (‵ (flent (ν ∷ κ) (Body (mem R) b o γ)) ⊛ raw (Whole ν)) ∷ ‵ (fres γ (R.coded.code y)) ∷ []) ∵ updating ! $
      use1 𝓛 (‵ (flft (ν ∷ []) (Share.left q)) ⊛ ‵ (flft κ (Share.left q))) (𝓛.lfts.lft_unmeet (ν ∷ []) κ (Share.left q)) $ split ! $
      move ! (1 ∷ 2 ∷ []) $ use2 𝓛 (‵ (flft κ q)) (𝓛.lfts.lft_join κ q) $
      -- [κ's token; the share of ν's token; what the lender kept; the last value]
      move ! (2 ∷ []) $ split ! $ move ! (3 ∷ 1 ∷ []) $ use2 𝓛 (‵ (flft (ν ∷ []) full_share)) (apply∗ 𝓤 (A.lft (ν ∷ []) (Share.left q)) (A.lft (ν ∷ []) full_share)) $
      lft_end ! tt $ use1 𝓛 (‵ (fdead (ν ∷ κ))) (𝓛.lfts.dead-incl (ν ∷ κ) (ν ∷ []) (meet_⊑_left (ν ∷ []) κ)) $
      -- [the loan is over; the lender's part; κ's token; the last value]
      move ! (0 ∷ 1 ∷ 3 ∷ []) $ use3 𝓛 (later (‵ (part_at R full_share y b o))) (ref_back 𝓛 R (ν ∷ κ) γ y b o) $ await ! tt $
      fpick ! (λ vs. fsplit ! $ spelt ! R (Is R) (shows 𝓛 R) vals tells full_share y vs b o $ at_once ! $ done !)
