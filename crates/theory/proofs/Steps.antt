-- Laws of a step's placement: what one block's copy taken from machine m to machine n changes of bits, domains, copies and loads,
-- and the same of a swap, which is two of these. The laws add on both sides what goes and what comes.
-- The laws of the tests of a step are in StepsLocal, those of the next step and of runs in StepsNext.
-- Assumes nothing.
use mathlib.Core.Path.{◌≡◌, refl, ap, sym, ◌∙◌}
use mathlib.Core.List.{List}
use Prim.Native.Nat.{ℕ, ◌+◌, ◌*◌, ◌^◌, ◌≤◌, ◌<◌, min}
use native.Mathlib.Nat.{mul-add, mul_comm}
use native.Mathlib.Decide.{dec_le, ℕ_discrete}
use native.Mathlib.Omega.{arith}
use lib.ListN.{length, drop, length-set}
use lib.Seq.{get_or-set_same, get_or-set_other, drop-set-lt}
use Rattle.order.specs.Sum.{sum, delta}
use Rattle.order.proofs.Sums.{sum-cong, sum_mono, sum-balance, sum-balance-le, sum-delta, sum-point, delta-same, delta-other}
use Rattle.order.proofs.SumChanges.{sum-change}
use Rattle.model.specs.Plan.{Plan, machines, domain, domains, block_count, block_of}
use Rattle.model.specs.Replication.{share}
use Rattle.model.specs.Placement.{bit, word_of, held, replicas, replicas_in, domains_used, count_of, used, share_of, load}
use Rattle.model.specs.Steps.{Step, none, relocate, exchange, shifted, after_move, after_swap, after}
use Rattle.theory.specs.Refusal.{Shaped}
use Rattle.theory.specs.Steps.{Admissible}
use Rattle.theory.proofs.Plan.{domain-lt}
use Rattle.theory.proofs.Placement.{bit-add, bit-add-below, bit-take, bit-apart, held_word, held-apart, replicas_in-delta, domains_used-pos}

-- ── shifted ──────────────────────────────────────────────────────────────────────────────────────
-- a set bit shifted to a place that is clear
pub bit-shift : (w m n : ℕ) → bit w m ≡ 1 → bit w n ≡ 0 → (k : ℕ) → bit (shifted w m n) k + delta k m ≡ bit w k + delta k n
unfolding shifted
bit-shift w m n on off k =
    let apart = delta-other m n (bit-apart w m n on off) in
    let still : bit (w + 2 ^ n) m ≡ 1 = omega (arith, bit-add w n off m) in
    (bit-take (w + 2 ^ n) m still).1 k ∙ bit-add w n off k

pub shifted-below : (w M m n : ℕ) → w < 2 ^ M → m < M → n < M → bit w m ≡ 1 → bit w n ≡ 0 → shifted w m n < 2 ^ M
unfolding shifted
shifted-below w M m n h b l on off = let s = bit-add-below w M n h l off in omega arith

module _ (p : Plan) (w m n : ℕ) (m-lt : m < machines p) (n-lt : n < machines p) (on : bit w m ≡ 1) (off : bit w n ≡ 0) where
  -- a shifted word has as many copies
  pub replicas-shift : replicas p (shifted w m n) ≡ replicas p w
  unfolding replicas
  replicas-shift =
      let e = sum-change (machines p) m n (bit w) (bit (shifted w m n)) (λ k. 1) (λ k. 1) m-lt n-lt
      (λ k l. let b = bit-shift w m n on off k in omega arith) in
      omega arith

  -- a shift takes a copy from one domain to the other
  pub replicas_in-shift : (d : ℕ) → replicas_in p (shifted w m n) d + delta (domain p m) d ≡ replicas_in p w d + delta (domain p n) d
  replicas_in-shift d =
      let sums =
      sum-balance (machines p) (λ k. weight k * bit (shifted w m n) k) (λ k. weight k * delta k m)
      (λ k. weight k * bit w k) (λ k. weight k * delta k n) term
      in
      omega (arith, replicas_in-delta p (shifted w m n) d, replicas_in-delta p w d, at m m-lt, at n n-lt)
    where
      weight : ℕ → ℕ
      weight k = delta (domain p k) d

      term : (k : ℕ) → k < machines p
          → weight k * bit (shifted w m n) k + weight k * delta k m ≡ weight k * bit w k + weight k * delta k n
      term k l =
          sym (mul-add (weight k) (bit (shifted w m n) k) (delta k m))
          ∙ ap (λ (x : ℕ). weight k * x) (bit-shift w m n on off k)
          ∙ mul-add (weight k) (bit w k) (delta k n)

      at : (a : ℕ) → a < machines p → sum (machines p) (λ k. weight k * delta k a) ≡ weight a
      at a l = sum-cong (machines p) _ _ (λ k h. mul_comm (weight k) (delta k a)) ∙ sum-delta (machines p) a weight l

  -- inside a domain nothing changes
  pub domains_used-shift-inside : domain p m ≡ domain p n → domains_used p (shifted w m n) ≡ domains_used p w
  unfolding domains_used
  domains_used-shift-inside same =
      sum-cong (domains p) _ _ (λ d l. ap (min 1) (let e = rw same at (replicas_in-shift d) in omega arith))

  module _ (shaped : Shaped p) where
    -- a shifted copy lies somewhere
    pub domains_used-shift-pos : 1 ≤ domains_used p (shifted w m n)
    domains_used-shift-pos =
        let apart = delta-other n m (λ e. bit-apart w m n on off (sym e)) in
        domains_used-pos p shaped (shifted w m n) n n-lt
        (omega (arith, bit-shift w m n on off n, delta-same n n refl))

    -- from a domain with more copies to one with fewer no domain is lost: with two copies or more the first stays, and with one
    -- copy the second had none and replaces it
    pub domains_used-shift-across : replicas_in p w (domain p n) < replicas_in p w (domain p m)
        → domains_used p w ≤ domains_used p (shifted w m n)
    unfolding domains_used
    domains_used-shift-across fewer = go (dec_le 2 (replicas_in p w (domain p m)))
      where
        stays : (d : ℕ) → 2 ≤ replicas_in p w (domain p m) → Dec (domain p m ≡ d)
            → min 1 (replicas_in p w d) ≤ min 1 (replicas_in p (shifted w m n) d)
        stays d many (yes e) =
            let count = rw e at many in
            omega (arith, replicas_in-shift d, delta-same (domain p m) d e)
        stays d many (no other) = omega (arith, replicas_in-shift d, delta-other (domain p m) d other)

        replaced : (d : ℕ) → replicas_in p w (domain p n) ≡ 0 → Dec (domain p n ≡ d)
            → min 1 (replicas_in p w d) + delta (domain p n) d ≤ min 1 (replicas_in p (shifted w m n) d) + delta (domain p m) d
        replaced d empty (yes e) =
            let count = rw e at empty in
            omega (arith, replicas_in-shift d, delta-same (domain p n) d e)
        replaced d empty (no other) = omega (arith, replicas_in-shift d, delta-other (domain p n) d other)

        go : Dec (2 ≤ replicas_in p w (domain p m))
            → sum (domains p) (λ d. min 1 (replicas_in p w d)) ≤ sum (domains p) (λ d. min 1 (replicas_in p (shifted w m n) d))
        go (yes many) = sum_mono (domains p) _ _ (λ d l. stays d many (ℕ_discrete (domain p m) d))
        go (no few) =
            let empty : replicas_in p w (domain p n) ≡ 0 = omega arith in
            let sums =
            sum-balance-le (domains p) (λ d. min 1 (replicas_in p w d)) (delta (domain p n))
            (λ d. min 1 (replicas_in p (shifted w m n) d)) (delta (domain p m))
            (λ d l. replaced d empty (ℕ_discrete (domain p n) d))
            in
            omega (
              arith,
              sum-point (domains p) (domain p m) (domain-lt p shaped m),
              sum-point (domains p) (domain p n) (domain-lt p shaped n),
            )

-- ── after_move ────────────────────────────────────────────────────────────────────────────────────
-- block i's word is shifted, the others stay
pub after_move-word : (words : List ℕ) (m n i : ℕ) → held words m i ≡ 1 → word_of (after_move words m n i) i ≡ shifted (word_of words i) m n
unfolding after_move
after_move-word words m n i on = get_or-set_same words i (shifted (word_of words i) m n) 0 (held_word words m i on)

pub after_move-other : (words : List ℕ) (m n i b : ℕ) → (b ≡ i → ⊥) → word_of (after_move words m n i) b ≡ word_of words b
unfolding after_move
after_move-other words m n i b apart = get_or-set_other words i b (shifted (word_of words i) m n) 0 apart

pub after_move-past : (words : List ℕ) (m n i count : ℕ) → i < count → drop count (after_move words m n i) ≡ drop count words
unfolding after_move
after_move-past words m n i count l = drop-set-lt count words i (shifted (word_of words i) m n) l

pub after_move-length : (words : List ℕ) (m n i : ℕ) → length (after_move words m n i) ≡ length words
unfolding after_move
after_move-length words m n i = length-set words i (shifted (word_of words i) m n)

-- what holds of every block's word, and of the shifted one, holds afterwards
pub after_move-each : (P : ℕ → ℕ → Type 0) (words : List ℕ) (m n i : ℕ) → held words m i ≡ 1 → P i (shifted (word_of words i) m n)
    → (b : ℕ) → P b (word_of words b) → P b (word_of (after_move words m n i) b)
after_move-each P words m n i on here b else = go (ℕ_discrete b i)
  where
    go : Dec (b ≡ i) → P b (word_of (after_move words m n i) b)
    go (yes e) = rw (e, after_move-word words m n i on) here
    go (no e) = rw (after_move-other words m n i b e) else

module _ (words : List ℕ) (m n i : ℕ) (on : held words m i ≡ 1) (off : held words n i ≡ 0) where
  -- every bit of the placement
  pub after_move-held : (k b : ℕ)
      → held (after_move words m n i) k b + delta b i * delta k m ≡ held words k b + delta b i * delta k n
  after_move-held k b = go (ℕ_discrete b i)
    where
      go : Dec (b ≡ i) → held (after_move words m n i) k b + delta b i * delta k m ≡ held words k b + delta b i * delta k n
      go (yes e) =
          let here : word_of (after_move words m n i) b ≡ shifted (word_of words b) m n = rw e (after_move-word words m n i on) in
          let bits = bit-shift (word_of words b) m n (rw e on) (rw e off) k in
          rw (here, delta-same b i e) (omega arith)
      go (no e) = rw (after_move-other words m n i b e, delta-other b i e) (omega arith)

  -- n gets i
  pub after_move-held-target : (b : ℕ) → held (after_move words m n i) n b ≡ held words n b + delta b i
  after_move-held-target b =
      let apart = bit-apart (word_of words i) m n on off in
      let e = rw (delta-same n n refl, delta-other n m (λ q. apart (sym q))) at (after_move-held n b) in
      omega arith

module _ (p : Plan) (words : List ℕ) (m n i : ℕ) (on : held words m i ≡ 1) (off : held words n i ≡ 0) where
  module _ (ml : m < machines p) (nl : n < machines p) where
    pub after_move-count : (b : ℕ) → count_of p (after_move words m n i) b ≡ count_of p words b
    after_move-count b =
        after_move-each (λ c w. replicas p w ≡ count_of p words c) words m n i on
        (replicas-shift p (word_of words i) m n ml nl on off) b refl

    pub after_move-share : (b : ℕ) → share_of p (after_move words m n i) b ≡ share_of p words b
    unfolding share_of
    after_move-share b = ap (share (block_of p b).popularity) (after_move-count b)

  module _ (il : i < block_count p) where
    pub after_move-used : (k : ℕ) → used p (after_move words m n i) k + delta k m ≡ used p words k + delta k n
    unfolding used
    after_move-used k =
        sum-change (block_count p) i i (held words k) (held (after_move words m n i) k) (λ b. delta k m) (λ b. delta k n) il il
        (λ b l. after_move-held words m n i on off k b)

  module _ (ml : m < machines p) (nl : n < machines p) (il : i < block_count p) where
    pub after_move-load : (k : ℕ)
        → load p (after_move words m n i) k + delta k m * share_of p words i ≡ load p words k + delta k n * share_of p words i
    unfolding load
    after_move-load k =
        sum-change (block_count p) i i (λ b. held words k b * share_of p words b)
        (λ b. held (after_move words m n i) k b * share_of p (after_move words m n i) b)
        (λ b. delta k m * share_of p words b) (λ b. delta k n * share_of p words b) il il at
      where
        at : (b : ℕ) → b < block_count p
            → held (after_move words m n i) k b * share_of p (after_move words m n i) b + delta b i * (delta k m * share_of p words b)
            ≡ held words k b * share_of p words b + delta b i * (delta k n * share_of p words b)
        at b l =
            let e = ap (λ (x : ℕ). x * share_of p words b) (after_move-held words m n i on off k b) in
            rw (after_move-share ml nl b) (omega arith)

    -- so the load of m, of n and of any other machine
    pub after_move-load-source : load p (after_move words m n i) m + share_of p words i ≡ load p words m
    after_move-load-source =
        let e = rw (delta-same m m refl, delta-other m n (bit-apart (word_of words i) m n on off)) at (after_move-load m) in
        omega arith

    pub after_move-load-target : load p (after_move words m n i) n ≡ load p words n + share_of p words i
    after_move-load-target =
        let apart = bit-apart (word_of words i) m n on off in
        let e = rw (delta-same n n refl, delta-other n m (λ q. apart (sym q))) at (after_move-load n) in
        omega arith

    pub after_move-load-else : (k : ℕ) → (k ≡ m → ⊥) → (k ≡ n → ⊥) → load p (after_move words m n i) k ≡ load p words k
    after_move-load-else k am an = let e = rw (delta-other k m am, delta-other k n an) at (after_move-load k) in omega arith

-- ── after_swap ────────────────────────────────────────────────────────────────────────────────────
-- i goes from m to n, then j, which is not i, from n to m
pub after_swap-past : (words : List ℕ) (m n i j count : ℕ) → i < count → j < count
    → drop count (after_swap words m n i j) ≡ drop count words
unfolding after_swap
after_swap-past words m n i j count il jl =
    after_move-past (after_move words m n i) n m j count jl ∙ after_move-past words m n i count il

module _ (p : Plan) (words : List ℕ) (m n i j : ℕ) (i-on : held words m i ≡ 1) (i-off : held words n i ≡ 0)
    (j-on : held words n j ≡ 1) (j-off : held words m j ≡ 0) where
  apart : j ≡ i → ⊥
  apart = held-apart words m i j i-on j-off

  -- the first move leaves j's word
  same : word_of (after_move words m n i) j ≡ word_of words j
  same = after_move-other words m n i j apart

  mid-on : held (after_move words m n i) n j ≡ 1
  mid-on = ap (λ (w : ℕ). bit w n) same ∙ j-on

  mid-off : held (after_move words m n i) m j ≡ 0
  mid-off = ap (λ (w : ℕ). bit w m) same ∙ j-off

  pub after_swap-word-i : word_of (after_swap words m n i j) i ≡ shifted (word_of words i) m n
  unfolding after_swap
  after_swap-word-i = after_move-other (after_move words m n i) n m j i (λ e. apart (sym e)) ∙ after_move-word words m n i i-on

  pub after_swap-word-j : word_of (after_swap words m n i j) j ≡ shifted (word_of words j) n m
  unfolding after_swap
  after_swap-word-j = after_move-word (after_move words m n i) n m j mid-on ∙ ap (λ (w : ℕ). shifted w n m) same

  pub after_swap-each : (P : ℕ → ℕ → Type 0) → P i (shifted (word_of words i) m n) → P j (shifted (word_of words j) n m)
      → (b : ℕ) → P b (word_of words b) → P b (word_of (after_swap words m n i j) b)
  unfolding after_swap
  after_swap-each P here there b else =
      after_move-each P (after_move words m n i) n m j mid-on (rw same there) b (after_move-each P words m n i i-on here b else)

  -- every bit of the placement
  pub after_swap-held : (k b : ℕ)
      → held (after_swap words m n i j) k b + (delta b i * delta k m + delta b j * delta k n)
      ≡ held words k b + (delta b i * delta k n + delta b j * delta k m)
  unfolding after_swap
  after_swap-held k b =
      let one = after_move-held words m n i i-on i-off k b in
      let two = after_move-held (after_move words m n i) n m j mid-on mid-off k b in
      omega arith

  -- n gets i for j, and m gets j for i
  pub after_swap-held-target : (b : ℕ) → held (after_swap words m n i j) n b + delta b j ≡ held words n b + delta b i
  after_swap-held-target b =
      let e = rw (delta-same n n refl, delta-other n m (bit-apart (word_of words j) n m j-on j-off)) at (after_swap-held n b) in
      omega arith

  pub after_swap-held-source : (b : ℕ) → held (after_swap words m n i j) m b + delta b i ≡ held words m b + delta b j
  after_swap-held-source b =
      let e = rw (delta-same m m refl, delta-other m n (bit-apart (word_of words i) m n i-on i-off)) at (after_swap-held m b) in
      omega arith

  pub after_swap-count : m < machines p → n < machines p → (b : ℕ) → count_of p (after_swap words m n i j) b ≡ count_of p words b
  unfolding after_swap
  after_swap-count ml nl b =
      after_move-count p (after_move words m n i) n m j mid-on mid-off nl ml b ∙ after_move-count p words m n i i-on i-off ml nl b

  pub after_swap-used : i < block_count p → j < block_count p → (k : ℕ) → used p (after_swap words m n i j) k ≡ used p words k
  unfolding after_swap
  after_swap-used il jl k =
      let one = after_move-used p words m n i i-on i-off il k in
      let two = after_move-used p (after_move words m n i) n m j mid-on mid-off jl k in
      omega arith

  module _ (ml : m < machines p) (nl : n < machines p) (il : i < block_count p) (jl : j < block_count p) where
    pub after_swap-load : (k : ℕ)
        → load p (after_swap words m n i j) k + (delta k m * share_of p words i + delta k n * share_of p words j)
        ≡ load p words k + (delta k n * share_of p words i + delta k m * share_of p words j)
    unfolding after_swap
    after_swap-load k =
        let one = after_move-load p words m n i i-on i-off ml nl il k in
        let same-share = after_move-share p words m n i i-on i-off ml nl j in
        let two = rw same-share at (after_move-load p (after_move words m n i) n m j mid-on mid-off nl ml jl k) in
        omega arith

    pub after_swap-load-source : load p (after_swap words m n i j) m + share_of p words i ≡ load p words m + share_of p words j
    after_swap-load-source =
        let e = rw (delta-same m m refl, delta-other m n (bit-apart (word_of words i) m n i-on i-off)) at (after_swap-load m) in
        omega arith

    pub after_swap-load-target : load p (after_swap words m n i j) n + share_of p words j ≡ load p words n + share_of p words i
    after_swap-load-target =
        let e = rw (delta-same n n refl, delta-other n m (bit-apart (word_of words j) n m j-on j-off)) at (after_swap-load n) in
        omega arith

    pub after_swap-load-else : (k : ℕ) → (k ≡ m → ⊥) → (k ≡ n → ⊥) → load p (after_swap words m n i j) k ≡ load p words k
    after_swap-load-else k am an = let e = rw (delta-other k m am, delta-other k n an) at (after_swap-load k) in omega arith

-- ── after ────────────────────────────────────────────────────────────────────────────────────────
-- a step changes no word past the blocks
-- a step changes no number of words
pub after-length : (words : List ℕ) (s : Step) → length (after words s) ≡ length words
unfolding after after_swap
after-length words none = refl
after-length words (relocate racks m n i) = after_move-length words m n i
after-length words (exchange racks m n i j) = after_move-length (after_move words m n i) n m j ∙ after_move-length words m n i

pub after-past : (p : Plan) (words : List ℕ) (s : Step) → Admissible p words s
    → drop (block_count p) (after words s) ≡ drop (block_count p) words
unfolding after
after-past p words none h = absurd h
after-past p words (relocate racks m n i) h = after_move-past words m n i (block_count p) h.2
after-past p words (exchange racks m n i j) h = after_swap-past words m n i j (block_count p) h.2 h.3
