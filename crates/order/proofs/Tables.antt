-- Laws of a list given by its length and its elements.
-- Assumes nothing.
use mathlib.Core.Path.{◌≡◌, refl, ap, ap₂, sym, ◌∙◌, subst}
use mathlib.Core.Bool.{cond}
use mathlib.Core.Logic.{◌⊎◌, inl, inr}
use mathlib.Core.List.{List, [], ◌∷◌, ◌++◌, append_assoc}
use Prim.Native.Nat.{ℕ, zero, suc, ◌+◌, ◌*◌, ◌-◌, ◌≤◌, ◌<◌}
use native.Mathlib.Nat.{eq-or-lt_of_le, le_of_suc-le-suc, not-suc-le-zero, le_refl}
use native.Mathlib.Numerals.{add-one}
use native.Mathlib.Omega.{arith}
use borrow.Author.Tests.{lt-ltb, le-ltb}
use lib.Dec.{ltb}
use lib.ListN.{length, get_or, set, take, drop, replicate, length-append, length-drop, length-replicate, get_or-replicate, get_or-append}
use lib.Arith.{le-zero}
use native.Mathlib.Decide.{ℕ_discrete, dec_lt}
use lib.Seq.{get_or_at, set_at, drop-cons, length-take-le, get_or-take, get_or-drop, get_or-append-add, ext_get_or}
use Rattle.order.specs.Table.{table, joined, filled, cut}

module _ {ℓ} {A : Type ℓ} where
  pub length-table : (n : ℕ) (f : ℕ → A) → length (table n f) ≡ n
  unfolding table
  length-table zero f = refl
  length-table (suc n) f =
      length-append (table n f) (f n ∷ []) ∙ ap (λ (k : ℕ). k + 1) (length-table n f) ∙ add-one n

  pub get_d-table : (n : ℕ) (f : ℕ → A) (i : ℕ) (d : A) → i < n → get_or (table n f) i d ≡ f i
  unfolding table
  get_d-table zero f i d h = absurd (not-suc-le-zero h)
  get_d-table (suc n) f i d h = go (eq-or-lt_of_le (le_of_suc-le-suc h)) (λ l. get_d-table n f i d l)
    where
      go : (i ≡ n) ⊎ (i < n) → (i < n → get_or (table n f) i d ≡ f i) → get_or (table n f ++ (f n ∷ [])) i d ≡ f i
      go (inl e) before = get_or_at (table n f) (f n) [] d i (length-table n f ∙ sym e) ∙ ap f (sym e)
      go (inr l) before =
          get_or-append (table n f) (f n ∷ []) d i (subst (λ (k : ℕ). i < k) (sym (length-table n f)) l) ∙ before l

  -- a list that nothing was written to, and one store more: what a loop that fills a buffer shows
  pub filled_none : (f : ℕ → A) (old : List A) → old ≡ filled 0 f old
  unfolding filled table
  filled_none f old = refl

  pub filled_more : (n : ℕ) (f : ℕ → A) (old now : List A) (a : A) → now ≡ filled n f old → n < length old → a ≡ f n
      → set now n a ≡ filled (n + 1) f old
  unfolding filled table
  filled_more n f old now a e l same =
      rw (add-one n)
      (ap (λ (s : List A). set s n a) (e ∙ ap (λ (s : List A). table n f ++ s) (drop-cons old n a l))
      ∙ set_at (table n f) (get_or old n a) (drop (suc n) old) a n (length-table n f)
      ∙ ap (λ (x : A). table n f ++ x ∷ drop (suc n) old) same
      ∙ sym (append_assoc (table n f) (f n ∷ []) (drop (suc n) old)))

  pub length-filled : (n : ℕ) (f : ℕ → A) (old : List A) → n ≤ length old → length (filled n f old) ≡ length old
  unfolding filled
  length-filled n f old l =
      length-append (table n f) (drop n old) ∙ (rw (length-table n f, length-drop n old) (omega arith))

  pub get_d-filled : (n : ℕ) (f : ℕ → A) (old : List A) (i : ℕ) (d : A) → i < n → get_or (filled n f old) i d ≡ f i
  unfolding filled
  get_d-filled n f old i d l =
      get_or-append (table n f) (drop n old) d i (rw (length-table n f) l) ∙ get_d-table n f i d l

  -- functions that agree below n fill alike
  pub table-cong : (n : ℕ) (f g : ℕ → A) → ((i : ℕ) → i < n → f i ≡ g i) → table n f ≡ table n g
  unfolding table
  table-cong zero f g e = refl
  table-cong (suc n) f g e =
      ap₂ (λ (s : List A) (x : A). s ++ (x ∷ [])) (table-cong n f g (λ i l. e i (omega arith))) (e n (le_refl (suc n)))

  pub filled-cong : (n : ℕ) (f g : ℕ → A) (old : List A) → ((i : ℕ) → i < n → f i ≡ g i) → filled n f old ≡ filled n g old
  unfolding filled
  filled-cong n f g old e = ap (λ (s : List A). s ++ drop n old) (table-cong n f g e)

  -- lists one after the other: none, one more, alike, and how long they get
  pub joined-zero : (f : ℕ → List A) → joined 0 f ≡ []
  unfolding joined
  joined-zero f = refl

  pub joined_step : (n : ℕ) (f : ℕ → List A) → joined (n + 1) f ≡ joined n f ++ f n
  unfolding joined
  joined_step n f = rw add-one

  pub joined-cong : (n : ℕ) (f g : ℕ → List A) → ((i : ℕ) → i < n → f i ≡ g i) → joined n f ≡ joined n g
  unfolding joined
  joined-cong zero f g e = refl
  joined-cong (suc n) f g e = ap₂ ◌++◌ (joined-cong n f g (λ i l. e i (omega arith))) (e n (omega arith))

  pub joined_length : (n c : ℕ) (f : ℕ → List A) → ((i : ℕ) → i < n → length (f i) ≡ c) → length (joined n f) ≡ n * c
  unfolding joined
  joined_length zero c f h = omega arith
  joined_length (suc n) c f h =
      let before = joined_length n c f (λ i l. h i (omega arith)) in
      let here = h n (omega arith) in
      simp length-append (omega (arith, before, here))

  pub joined-length-le : (n c : ℕ) (f : ℕ → List A) → ((i : ℕ) → i < n → length (f i) ≤ c) → length (joined n f) ≤ n * c
  unfolding joined
  joined-length-le zero c f h = omega arith
  joined-length-le (suc n) c f h =
      let before = joined-length-le n c f (λ i l. h i (omega arith)) in
      let here = h n (omega arith) in
      simp length-append (omega (arith, before, here))

  -- the first lists are no longer than all of them
  pub joined-prefix : (n : ℕ) (f : ℕ → List A) (i : ℕ) → i ≤ n → length (joined i f) ≤ length (joined n f)
  unfolding joined
  joined-prefix zero f i l = rw (le-zero l) (omega arith)
  joined-prefix (suc n) f i l = elim (ℕ_discrete i (suc n)) [
    | yes e ↦ rw e (omega arith)
    | no d ↦ let before = joined-prefix n f i (omega arith) in simp length-append (omega arith)
  ]

-- ── cut ──────────────────────────────────────────────────────────────────────────────────────────
-- Where item k of the list without the n items from place `at` on stood before.
abbrev pub uncut : ℕ → ℕ → ℕ → ℕ
uncut at n k = cond (ltb k at) k (k + n)

pub uncut-below : (at n k : ℕ) → k < at → uncut at n k ≡ k
uncut-below at n k l = rw (lt-ltb k at l)

pub uncut-from : (at n k : ℕ) → at ≤ k → uncut at n k ≡ k + n
uncut-from at n k l = rw (le-ltb k at l)

module _ {ℓ} {A : Type ℓ} where
  -- the items of two lists, one after the other
  get_d-append-from : (xs ys : List A) (i : ℕ) (d : A) → length xs ≤ i → get_or (xs ++ ys) i d ≡ get_or ys (i - length xs) d
  get_d-append-from xs ys i d l =
      let place : i ≡ length xs + (i - length xs) = omega arith in
      ap (λ (k : ℕ). get_or (xs ++ ys) k d) place ∙ get_or-append-add xs ys (i - length xs) d

  module _ (at n : ℕ) (list : List A) (inside : at + n ≤ length list) where
    front : length (take at list) ≡ at
    front = length-take-le at list (omega arith)

    pub length_cut : length (cut at n list) ≡ length list - n
    unfolding cut
    length_cut =
        let f = front in
        length-append (take at list) (drop (at + n) list) ∙ (rw (f, length-drop (at + n) list) (omega arith))

    pub get_d-cut : (k : ℕ) (d : A) → get_or (cut at n list) k d ≡ get_or list (uncut at n k) d
    unfolding cut
    get_d-cut k d = elim (dec_lt k at) [
      | yes l ↦
          get_or-append (take at list) (drop (at + n) list) d k (rw front l)
          ∙ get_or-take at list k d l
          ∙ ap (λ (j : ℕ). get_or list j d) (sym (uncut-below at n k l))
      | no l ↦
          let f = front in
          let place : at + n + (k - length (take at list)) ≡ uncut at n k = rw (f, uncut-from at n k (omega arith)) (omega arith) in
          get_d-append-from (take at list) (drop (at + n) list) k d (rw f (omega arith))
          ∙ get_or-drop (at + n) list (k - length (take at list)) d
          ∙ ap (λ (j : ℕ). get_or list j d) place
    ]

  -- The first `count` items without the n from place `at` on, n times `pad` behind them, and the later items as they were.
  abbrev pub closed : ℕ → ℕ → ℕ → A → List A → List A
  closed count at n pad list = cut at n (take count list) ++ replicate n pad ++ drop count list

  module _ (count at n : ℕ) (pad : A) (list : List A) (inside : at + n ≤ count) (room : count ≤ length list) where
    part : length (take count list) ≡ count
    part = length-take-le count list room

    inside-part : at + n ≤ length (take count list)
    inside-part = rw part inside

    kept-length : length (cut at n (take count list)) ≡ count - n
    kept-length = length_cut at n (take count list) inside-part ∙ ap (λ (k : ℕ). k - n) part

    padded-length : length (cut at n (take count list) ++ replicate n pad) ≡ count
    padded-length =
        let k = kept-length in
        length-append (cut at n (take count list)) (replicate n pad) ∙ (rw (k, length-replicate n pad) (omega arith))

    pub length-closed : length (closed count at n pad list) ≡ length list
    length-closed =
        let l = padded-length in
        length-append (cut at n (take count list) ++ replicate n pad) (drop count list) ∙ (rw (l, length-drop count list) (omega arith))

    in-padded : (k : ℕ) (d : A) → k < count
        → get_or (closed count at n pad list) k d ≡ get_or (cut at n (take count list) ++ replicate n pad) k d
    in-padded k d l = get_or-append (cut at n (take count list) ++ replicate n pad) (drop count list) d k (rw padded-length l)

    -- the items that stay
    pub closed-kept : (k : ℕ) (d : A) → k < count - n → get_or (closed count at n pad list) k d ≡ get_or list (uncut at n k) d
    closed-kept k d l =
        in-padded k d (omega arith)
        ∙ get_or-append (cut at n (take count list)) (replicate n pad) d k (rw kept-length l)
        ∙ get_d-cut at n (take count list) inside-part k d
        ∙ get_or-take count list (uncut at n k) d uncut-lt
      where
        uncut-lt : uncut at n k < count
        uncut-lt = elim (dec_lt k at) [
          | yes h ↦ rw (uncut-below at n k h) (omega arith)
          | no h ↦ rw (uncut-from at n k (omega arith)) (omega arith)
        ]

    -- the places that they left
    pub closed-vacated : (k : ℕ) (d : A) → count - n ≤ k → k < count → get_or (closed count at n pad list) k d ≡ pad
    closed-vacated k d l h =
        let e = kept-length in
        in-padded k d h
        ∙ get_d-append-from (cut at n (take count list)) (replicate n pad) k d (rw e l)
        ∙ get_or-replicate n (k - length (cut at n (take count list))) pad d (rw e (omega arith))

    -- the later items
    pub closed-later : (k : ℕ) (d : A) → count ≤ k → get_or (closed count at n pad list) k d ≡ get_or list k d
    closed-later k d l =
        let e = padded-length in
        get_d-append-from (cut at n (take count list) ++ replicate n pad) (drop count list) k d (rw e l)
        ∙ get_or-drop count list (k - length (cut at n (take count list) ++ replicate n pad)) d
        ∙ ap (λ (j : ℕ). get_or list j d) (rw e (omega arith))

    -- a list of these items is that list
    pub closed_is : (d : A) (later : List A) → length later ≡ length list
        → ((k : ℕ) → k < count - n → get_or later k d ≡ get_or list (uncut at n k) d)
        → ((k : ℕ) → count - n ≤ k → k < count → get_or later k d ≡ pad)
        → ((k : ℕ) → count ≤ k → get_or later k d ≡ get_or list k d)
        → later ≡ closed count at n pad list
    closed_is d later sized kept vacated others =
        ext_get_or d later (closed count at n pad list) (sized ∙ sym length-closed)
        (λ k l. elim (dec_lt k count) [
          | yes h ↦ elim (dec_lt k (count - n)) [
            | yes g ↦ kept k g ∙ sym (closed-kept k d g)
            | no g ↦ vacated k (omega arith) h ∙ sym (closed-vacated k d (omega arith) h)
          ]
          | no h ↦ others k (omega arith) ∙ sym (closed-later k d (omega arith))
        ])
