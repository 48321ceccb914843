-- The refusal numbers of every call on an accepted image, each when, and only then: they are read off the list. Refusal 2 does not arise, and 1 only for a check with too little scratch.
use Rattle.std.specs.Prelude.{◌≡◌, refl, List, [], ◌∷◌, ◌≢◌, Bool, true, false, cond, ℕ, ◌<◌, length, leb, Err, Ok}
use Rattle.std.proofs.Common.{sym, ap, ◌∙◌, arith, leb-false}
use Rattle.std.proofs.Math.Option.{some}
use Rattle.keys.specs.declared.Key.{Key}
use Rattle.records.specs.declared.Refusal.TheVariants as no
use Rattle.records.specs.Numbers.{done, refusal_number, answer_number}
use Rattle.lists.specs.Entries.{same, list_end, find, held}
use Rattle.lists.specs.Answers.{got_from, done_from, entry_from, Answer, done_is, got_is, place_is, entry_is, count_from, number_in, indexless, somewhere}
use Rattle.lists.specs.Machine.{Question, get, contains, address, len, capacity, smallest, largest, check, Call, start, insert, remove, write, ask, Fitting, Entries, full, list_answer}
use Rattle.accepted.specs.Accepted.{Accepted}
use Rattle.accepted_lookup.specs.Answers.{listed}
use Rattle.histories.specs.Calls.{answer_of}
use Rattle.histories.specs.Agrees.{call_agrees}

-- ---- the numbers that the list gives

-- 4 where the key is not held
abbrev pub absent_unless : Bool → ℕ
absent_unless true = 0
absent_unless false = 4

-- 4 where there is no entry
abbrev pub absent_if_empty : Entries → ℕ
absent_if_empty [] = 4
absent_if_empty (e ∷ es) = 0

abbrev pub reply_number : ℕ → Question → Entries → ℕ
reply_number m (get key) es = absent_unless (held key es)
reply_number m (contains key) es = absent_unless (held key es)
reply_number m (address key) es = absent_unless (held key es)
reply_number m len es = 0
reply_number m capacity es = 0
reply_number m smallest es = absent_if_empty es
reply_number m largest es = absent_if_empty es
reply_number m (check scratch) es = cond (leb m (length scratch)) 0 1

abbrev pub list_number : ℕ → Call → Entries → ℕ
list_number m start es = 5
list_number m (insert key v) es = cond (full m es) 3 0
list_number m (remove key) es = absent_unless (held key es)
list_number m (write key v) es = absent_unless (held key es)
list_number m (ask q) es = reply_number m q es

-- ---- they are the numbers of its answers

index_no_number : (x : Answer) → number_in (indexless x) ≡ number_in x
unfolding number_in answer_number
index_no_number (place_is (Ok i)) = refl
index_no_number (place_is (Err r)) = refl
index_no_number (done_is d) = refl
index_no_number (got_is g) = refl
index_no_number (entry_is e) = refl
index_no_number (count_from c) = refl

got_number_lem : (key : Key) (es : Entries) → answer_number (got_from (find key es)) ≡ absent_unless (held key es)
unfolding answer_number refusal_number
got_number_lem key [] = refl
got_number_lem key (e ∷ es) = go (same key e.0) (got_number_lem key es)
  where
    go : (b : Bool) → answer_number (got_from (find key es)) ≡ absent_unless (held key es)
        → answer_number (got_from (cond b (some e.1) (find key es))) ≡ absent_unless (cond b true (held key es))
    go true f = refl
    go false f = f

done_number_lem : (b : Bool) → answer_number (done_from b) ≡ absent_unless b
unfolding answer_number refusal_number
done_number_lem true = refl
done_number_lem false = refl

place_number_lem : (b : Bool) → number_in (cond b somewhere (place_is (Err no.Absent))) ≡ absent_unless b
unfolding number_in answer_number refusal_number
place_number_lem true = refl
place_number_lem false = refl

full_number : (b : Bool) → number_in (cond b (place_is (Err no.Full)) somewhere) ≡ cond b 3 0
unfolding number_in answer_number refusal_number
full_number true = refl
full_number false = refl

end_number : (b : Bool) (es : Entries) → answer_number (entry_from (list_end b es)) ≡ absent_if_empty es
unfolding answer_number refusal_number
end_number b [] = refl
end_number false (e ∷ es) = refl
end_number true (e ∷ es) = refl

check_number : (b : Bool) → answer_number (cond b done (Err no.Shape)) ≡ cond b 0 1
unfolding answer_number refusal_number
check_number true = refl
check_number false = refl

list_number_lem : (m : ℕ) (c : Call) (es : Entries) → number_in (list_answer m c es) ≡ list_number m c es
unfolding number_in answer_number refusal_number
list_number_lem m start es = refl
list_number_lem m (insert key v) es = full_number (full m es)
list_number_lem m (remove key) es = got_number_lem key es
list_number_lem m (write key v) es = done_number_lem (held key es)
list_number_lem m (ask (get key)) es = got_number_lem key es
list_number_lem m (ask (contains key)) es = done_number_lem (held key es)
list_number_lem m (ask (address key)) es = place_number_lem (held key es)
list_number_lem m (ask len) es = refl
list_number_lem m (ask capacity) es = refl
list_number_lem m (ask smallest) es = end_number false es
list_number_lem m (ask largest) es = end_number true es
list_number_lem m (ask (check scratch)) es = check_number (leb m (length scratch))

module _ {m n : ℕ} {ws : List ℕ} (a : Accepted m n ws) (c : Call) (fits : Fitting c) where
  -- The number of each call's answer, when, and only then.
  pub number_agrees : number_in (answer_of m n c ws) ≡ list_number m c (listed a)
  number_agrees = sym (index_no_number (answer_of m n c ws)) ∙ ap number_in (call_agrees a c fits).0 ∙ list_number_lem m c (listed a)

-- ---- refusals that do not arise

-- a check that was lent less than a word of scratch for each of m values
abbrev pub ShortScratch : ℕ → Question → Type 0
ShortScratch m (check scratch) = length scratch < m
ShortScratch m (get key) = ⊥
ShortScratch m (contains key) = ⊥
ShortScratch m (address key) = ⊥
ShortScratch m len = ⊥
ShortScratch m capacity = ⊥
ShortScratch m smallest = ⊥
ShortScratch m largest = ⊥

abbrev pub ShortCheck : ℕ → Call → Type 0
ShortCheck m start = ⊥
ShortCheck m (insert key v) = ⊥
ShortCheck m (remove key) = ⊥
ShortCheck m (write key v) = ⊥
ShortCheck m (ask q) = ShortScratch m q

-- 0, or one of the numbers 3, 4 and 5; and 1 where S is so
pub data Plain (S : Type 0) (k : ℕ) : Type 0 where
  other : k ≢ 1 → k ≢ 2 → Plain S k
  short : S → k ≡ 1 → Plain S k

none_held : {S : Type 0} (b : Bool) → Plain S (absent_unless b)
none_held true = other (λ z. omega arith) (λ z. omega arith)
none_held false = other (λ z. omega arith) (λ z. omega arith)

none_there : {S : Type 0} (es : Entries) → Plain S (absent_if_empty es)
none_there [] = other (λ z. omega arith) (λ z. omega arith)
none_there (e ∷ es) = other (λ z. omega arith) (λ z. omega arith)

reply_plain : (m : ℕ) (q : Question) (es : Entries) → Plain (ShortScratch m q) (reply_number m q es)
reply_plain m (get key) es = none_held (held key es)
reply_plain m (contains key) es = none_held (held key es)
reply_plain m (address key) es = none_held (held key es)
reply_plain m len es = other (λ z. omega arith) (λ z. omega arith)
reply_plain m capacity es = other (λ z. omega arith) (λ z. omega arith)
reply_plain m smallest es = none_there es
reply_plain m largest es = none_there es
reply_plain m (check scratch) es = go (leb m (length scratch)) refl
  where
    go : (b : Bool) → leb m (length scratch) ≡ b → Plain (length scratch < m) (cond b 0 1)
    go true e = other (λ z. omega arith) (λ z. omega arith)
    go false e = short (leb-false m (length scratch) e) refl

list_plain : (m : ℕ) (c : Call) (es : Entries) → Plain (ShortCheck m c) (list_number m c es)
list_plain m start es = other (λ z. omega arith) (λ z. omega arith)
list_plain m (insert key v) es = go (full m es)
  where
    go : (b : Bool) → Plain ⊥ (cond b 3 0)
    go true = other (λ z. omega arith) (λ z. omega arith)
    go false = other (λ z. omega arith) (λ z. omega arith)
list_plain m (remove key) es = none_held (held key es)
list_plain m (write key v) es = none_held (held key es)
list_plain m (ask q) es = reply_plain m q es

module _ {m n : ℕ} {ws : List ℕ} (a : Accepted m n ws) (c : Call) (fits : Fitting c) where
  -- No call finds an accepted image damaged.
  pub never_damaged : number_in (answer_of m n c ws) ≢ 2
  never_damaged e = go (list_plain m c (listed a))
    where
      go : Plain (ShortCheck m c) (list_number m c (listed a)) → ⊥
      go (other one two) = two (sym (number_agrees a c fits) ∙ e)
      go (short s k) = omega (arith, number_agrees a c fits)

  -- Nor its shape wrong: only a check may lack scratch.
  pub only_scratch : number_in (answer_of m n c ws) ≡ 1 → ShortCheck m c
  only_scratch e = go (list_plain m c (listed a))
    where
      go : Plain (ShortCheck m c) (list_number m c (listed a)) → ShortCheck m c
      go (other one two) = absurd (one (sym (number_agrees a c fits) ∙ e))
      go (short s k) = s
