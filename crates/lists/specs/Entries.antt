-- The ascending list: entries, each a key with something beside it, in strictly ascending order of their keys. What is found in it and what is held, how an entry is entered, updated and erased, and its
-- two ends. What stands beside a key may be of any type. The definitions come first, then the laws that need nothing else.
use Rattle.std.specs.Prelude.{◌≡◌, refl, Bool, true, false, cond, ℕ, suc, ◌<◌, length, eqb, ltb}
use Rattle.std.proofs.Common.{sym, ap, ◌∙◌, true≢false, arith, ltb-true, ne_eqb}
use Rattle.std.proofs.Math.Option
use Rattle.std.proofs.Math.Option.{Option, none, some}
use mathlib.Core.List.{List, [], ◌∷◌, map, drop_last}
use Rattle.keys.specs.declared.Key.{Key}
use Rattle.keys.specs.Number.{number_of}
use Rattle.lists.specs.Lists.{All, Pairs, all_map}

-- ---- order

-- whether two keys are one
abbrev pub same : Key → Key → Bool
same a b = eqb (number_of a) (number_of b)

abbrev pub Before : {A : Type 0} → Key × A → Key × A → Type 0
Before x y = number_of x.0 < number_of y.0

-- each entry's key is less than the key of every later one
abbrev pub Rising : {A : Type 0} → List (Key × A) → Type 0
Rising es = Pairs Before es

-- ---- one key

-- what stands beside k
abbrev pub find : {A : Type 0} → Key → List (Key × A) → Option A
find k [] = none
find k (e ∷ es) = cond (same k e.0) (some e.1) (find k es)

-- whether k is there
abbrev pub held : {A : Type 0} → Key → List (Key × A) → Bool
held k [] = false
held k (e ∷ es) = cond (same k e.0) true (held k es)

-- the key that is there gets the value; a new key goes before the first key that is greater
abbrev pub enter : {A : Type 0} → Key → A → List (Key × A) → List (Key × A)
enter key v [] = (key, v) ∷ []
enter key v (e ∷ es) = cond (same key e.0) ((e.0, v) ∷ es) (cond (ltb (number_of key) (number_of e.0)) ((key, v) ∷ e ∷ es) (e ∷ enter key v es))

-- the key's entry gets the value; nothing changes where the key is not held
abbrev pub update : {A : Type 0} → Key → A → List (Key × A) → List (Key × A)
update key v [] = []
update key v (e ∷ es) = cond (same key e.0) ((e.0, v) ∷ es) (e ∷ update key v es)

-- the key's entry is taken out; nothing changes where the key is not held
abbrev pub erase : {A : Type 0} → Key → List (Key × A) → List (Key × A)
erase k [] = []
erase k (e ∷ es) = cond (same k e.0) es (e ∷ erase k es)

-- ---- both ends

-- A side is a Bool: false is the front, true the back.
abbrev pub last_of : {A : Type 0} → A → List A → A
last_of x [] = x
last_of x (y ∷ ys) = last_of y ys

-- the first or the last element
abbrev pub list_end : {A : Type 0} → Bool → List A → Option A
list_end b [] = none
list_end false (x ∷ xs) = some x
list_end true (x ∷ xs) = some (last_of x xs)

-- the list without it
abbrev pub rest_of : {A : Type 0} → Bool → List A → List A
rest_of b [] = []
rest_of false (x ∷ xs) = xs
rest_of true (x ∷ xs) = drop_last (x ∷ xs)

-- ---- laws: a key that is held, and one that is not

abbrev pub is_some : {A : Type 0} → Option A → Bool
is_some none = false
is_some (some x) = true

pub held_found : {A : Type 0} (k : Key) (es : List (Key × A)) → held k es ≡ is_some (find k es)
held_found k [] = refl
held_found k (e ∷ es) = go (same k e.0) (held_found k es)
  where
    go : (b : Bool) → held k es ≡ is_some (find k es) → cond b true (held k es) ≡ is_some (cond b (some e.1) (find k es))
    go true h = refl
    go false h = h

-- what holds of every entry's value holds of one that is found
pub find_all : {A : Type 0} (P : A → Type 0) (k : Key) (es : List (Key × A)) (v : A) → All (λ e. P e.1) es → find k es ≡ some v → P v
find_all P k [] v a e = let z : ◌≡◌ {A = ℕ} 0 1 = cc in absurd (omega arith)
find_all P k (x ∷ es) v a e = go (same k x.0) e (find_all P k es v a.1)
  where
    go : (b : Bool) → cond b (some x.1) (find k es) ≡ some v → (find k es ≡ some v → P v) → P v
    go true q f = let same_value : x.1 ≡ v = cc in rw (sym same_value) a.0
    go false q f = f q

pub find_map : {A B : Type 0} (k : Key) (g : A → B) (es : List (Key × A)) → find k (map (λ e. (e.0, g e.1)) es) ≡ Option.map g (find k es)
find_map k g [] = refl
find_map k g (e ∷ es) = go (same k e.0) (find_map k g es)
  where
    go : (b : Bool) → find k (map (λ e. (e.0, g e.1)) es) ≡ Option.map g (find k es)
        → cond b (some (g e.1)) (find k (map (λ e. (e.0, g e.1)) es)) ≡ Option.map g (cond b (some e.1) (find k es))
    go true h = refl
    go false h = h

abbrev pub Other : Key → Key → Type 0
Other k a = same k a ≡ false

-- a key that is not held is none of the keys
pub unheld : {A : Type 0} (k : Key) (es : List (Key × A)) → held k es ≡ false → All (λ e. Other k e.0) es
unheld k [] e = tt
unheld k (x ∷ es) e = go (same k x.0) e (unheld k es)
  where
    go : (b : Bool) → cond b true (held k es) ≡ false → (held k es ≡ false → All (λ e. Other k e.0) es) → (b ≡ false) × All (λ e. Other k e.0) es
    go true q f = absurd (true≢false q)
    go false q f = (refl, f q)

pub unfound : {A : Type 0} (k : Key) (es : List (Key × A)) → find k es ≡ none → All (λ e. Other k e.0) es
unfound k es e = unheld k es (held_found k es ∙ ap is_some e)

-- where it is none of them, it is not found, and to erase it changes nothing
pub held_none : {A : Type 0} (k : Key) (es : List (Key × A)) → All (λ e. Other k e.0) es → held k es ≡ false
held_none k [] h = refl
held_none k (e ∷ es) h = rw h.0 (held_none k es h.1)

pub find_none : {A : Type 0} (k : Key) (es : List (Key × A)) → All (λ e. Other k e.0) es → find k es ≡ none
find_none k [] h = refl
find_none k (e ∷ es) h = rw h.0 (find_none k es h.1)

pub erase_none : {A : Type 0} (k : Key) (es : List (Key × A)) → All (λ e. Other k e.0) es → erase k es ≡ es
erase_none k [] h = refl
erase_none k (e ∷ es) h = rw (h.0, erase_none k es h.1)

-- one entry less, if the key is there
pub length_erase : {A : Type 0} (k : Key) (es : List (Key × A)) → length es ≡ cond (held k es) (suc (length (erase k es))) (length (erase k es))
length_erase k [] = refl
length_erase k (e ∷ es) = go (same k e.0) (held k es) (length_erase k es)
  where
    go : (q h : Bool) → length es ≡ cond h (suc (length (erase k es))) (length (erase k es))
        → suc (length es) ≡ cond (cond q true h) (suc (length (cond q es (e ∷ erase k es)))) (length (cond q es (e ∷ erase k es)))
    go true h z = refl
    go false true z = ap suc z
    go false false z = ap suc z

-- a held key gets the value, and nothing else changes
pub enter_held : {A : Type 0} (key : Key) (v : A) (es : List (Key × A)) → Rising es → held key es ≡ true → enter key v es ≡ update key v es
enter_held key v [] s e = let z : ◌≡◌ {A = ℕ} 0 1 = cc in absurd (omega arith)
enter_held key v (x ∷ es) s e = go (same key x.0) (ltb (number_of key) (number_of x.0)) refl e (enter_held key v es s.1)
  where
    go : (q l : Bool) → ltb (number_of key) (number_of x.0) ≡ l → cond q true (held key es) ≡ true → (held key es ≡ true → enter key v es ≡ update key v es)
        → cond q ((x.0, v) ∷ es) (cond l ((key, v) ∷ x ∷ es) (x ∷ enter key v es)) ≡ cond q ((x.0, v) ∷ es) (x ∷ update key v es)
    go true l t d f = refl
    go false true t d f =
        let less : number_of key < number_of x.0 = ltb-true (number_of key) (number_of x.0) t in
        absurd (true≢false (sym d ∙ held_none key es (all_map (λ y h. ne_eqb (number_of key) (number_of y.0) (λ q. omega arith)) es s.0)))
    go false false t d f = ap (λ l. x ∷ l) (f d)
