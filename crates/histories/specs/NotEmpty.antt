-- The theorems are not empty: every ascending list of at most M entries is the list of some accepted image, made from blank memory by a start and an insert for each entry.
use Rattle.std.specs.Prelude.{◌≡◌, refl, List, [], ◌∷◌, ◌++◌, ◌≢◌, Bool, cond, ℕ, ◌*◌, ◌≤◌, ◌<◌, length, get_or, replicate}
use Rattle.std.proofs.Common.{sym, ap, subst, ◌∙◌, append-nil, append_assoc, arith, lt_of_not-le, length-append, ne_eqb, le-ltb}
use Rattle.std.proofs.Math.Decide.{dec_le}
use Rattle.std.proofs.lemmas.List.{length-replicate, get_or-replicate}
use Rattle.std.proofs.Math.ListN.{get_or-eq_default}
use Rattle.keys.specs.declared.Key.{Key}
use Rattle.keys.specs.Number.{Fits, number_of}
use Rattle.records.specs.declared.Value.{Value}
use Rattle.records.specs.Layout.{image_length, most_values, most_nodes}
use Rattle.lists.specs.Lists.{All}
use Rattle.lists.specs.Entries.{Rising, enter}
use Rattle.lists.specs.Machine.{FitsValue, Call, start, insert, Fitting, Entries, full, State, blank, holding, state_after}
use Rattle.accepted.specs.Accepted.{Accepted}
use Rattle.accepted_lookup.specs.Answers.{listed}
use Rattle.accepted_write.specs.Start.{Blank}
use Rattle.histories.specs.Calls.{image_after}
use Rattle.histories.specs.Agrees.{Is, history}

-- ---- blank memory

-- M is 1 to 4,096, N is 2M to 8,192
pub record Limits (m n : ℕ) : Type 0 where
  pub some : 1 ≤ m
  pub most : m ≤ most_values
  pub twice : 2 * m ≤ n
  pub nodes_most : n ≤ most_nodes

-- as many zero words as M and N ask for
abbrev pub zero_words : ℕ → ℕ → List ℕ
zero_words m n = replicate (image_length m n) 0

zeros_blank : (count : ℕ) → Blank (replicate count 0)
zeros_blank count k = go (dec_le count k)
  where
    go : Dec (count ≤ k) → ◌≡◌ {A = ℕ} (get_or (replicate count 0) k 0) 0
    go (yes l) = get_or-eq_default (replicate count 0) 0 (omega (arith, length-replicate {A = ℕ} count 0))
    go (no l) = get_or-replicate count k 0 0 (lt_of_not-le l)

pub zeros_are : (m n : ℕ) → Limits m n → Is m n (zero_words m n) blank
zeros_are m n l =
    (record { some = l.some; most = l.most; twice = l.twice; nodes_most = l.nodes_most; words = length-replicate (image_length m n) 0 }, zeros_blank (image_length m n))

-- ---- a key above all others goes to the end

enter_last : (key : Key) (v : Value) (es : Entries) → All (λ e. number_of e.0 < number_of key) es → enter key v es ≡ es ++ (key, v) ∷ []
enter_last key v [] h = refl
enter_last key v (e ∷ es) h =
    let less : number_of e.0 < number_of key = h.0 in
    rw (ne_eqb (number_of key) (number_of e.0) (λ q. omega arith), le-ltb (number_of key) (number_of e.0) (omega arith)) (ap (λ (l : Entries). e ∷ l) (enter_last key v es h.1))

abbrev pub inserts : Entries → List Call
inserts [] = []
inserts (e ∷ es) = insert e.0 e.1 ∷ inserts es

-- what is stored is made of 64-bit words
abbrev pub FitsEntry : Key × Value → Type 0
FitsEntry e = Fits e.0 × FitsValue e.1

inserts_fit : (es : Entries) → All FitsEntry es → All Fitting (inserts es)
inserts_fit [] f = tt
inserts_fit (e ∷ es) f = (f.0, inserts_fit es f.1)

before_all : (xs : Entries) (e : Key × Value) (ys : Entries) → Rising (xs ++ e ∷ ys) → All (λ x. number_of x.0 < number_of e.0) xs
before_all [] e ys h = tt
before_all (x ∷ xs) e ys h = (first xs h.0, before_all xs e ys h.1)
  where
    first : (zs : Entries) → All (λ y. number_of x.0 < number_of y.0) (zs ++ e ∷ ys) → number_of x.0 < number_of e.0
    first [] k = k.0
    first (z ∷ zs) k = first zs k.1

appended : (m : ℕ) (xs ys : Entries) → Rising (xs ++ ys) → length (xs ++ ys) ≤ m → state_after m (inserts ys) (holding xs) ≡ holding (xs ++ ys)
appended m xs [] r l = ap holding (sym (append-nil xs))
appended m xs (e ∷ ys) r l =
    let short : length xs ≢ m = λ q. omega (arith, length-append xs (e ∷ ys)) in
    let joined : (xs ++ e ∷ []) ++ ys ≡ xs ++ e ∷ ys = append_assoc xs (e ∷ []) ys in
    let next : cond (full m xs) xs (enter e.0 e.1 xs) ≡ xs ++ e ∷ [] =
    ap (λ (b : Bool). cond b xs (enter e.0 e.1 xs)) (ne_eqb (length xs) m short) ∙ enter_last e.0 e.1 xs (before_all xs e ys r) in
    ap (λ (zs : Entries). state_after m (inserts ys) (holding zs)) next
    ∙ appended m (xs ++ e ∷ []) ys (subst (λ (zs : Entries). Rising zs) (sym joined) r) (subst (λ (zs : Entries). length zs ≤ m) (sym joined) l)
    ∙ ap (λ (zs : Entries). holding zs) joined

-- Every ascending list of at most M entries is the list of an accepted image: the one that a start and its inserts make of blank memory.
pub every_list : (m n : ℕ) → Limits m n → (es : Entries) → Rising es → All FitsEntry es → length es ≤ m
    → (a : Accepted m n (image_after m n (start ∷ inserts es) (zero_words m n))) × (listed a ≡ es)
every_list m n l es r f long =
    subst (λ (s : State). Is m n (image_after m n (start ∷ inserts es) (zero_words m n)) s) (appended m [] es r long)
    (history m n (zero_words m n) blank (zeros_are m n l) (start ∷ inserts es) (tt, inserts_fit es f)).1
