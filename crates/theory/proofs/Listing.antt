-- Laws of the listing: its numbers digit by digit, its lines and their lengths, the machines of a block, and how the calls' outcomes
-- follow. A listing fits its room, by the length of each line.
-- Assumes nothing.
use mathlib.Core.Path.{◌≡◌, refl, ap, ap₂, sym, ◌∙◌}
use mathlib.Core.Bool.{Bool, true, false, cond}
use mathlib.Core.List.{List, [], ◌∷◌, ◌++◌, append_assoc, append-nil}
use mathlib.Core.Logic.{◌⊎◌, inl, inr}
use Prim.Native.Nat.{ℕ, zero, suc, ◌+◌, ◌*◌, ◌-◌, ◌/◌, ◌%◌, ◌^◌, ◌<◌, ◌≤◌}
use native.Mathlib.Nat.{not-suc-le-zero, le_trans, mul-le-mul_left, mul-le-mul_right, pow-suc, mod-eq_of_lt}
use native.Mathlib.Decide.{dec_lt, ℕ_discrete}
use native.Mathlib.Omega.{arith}
use borrow.Author.Tests.{lt-ltb, le-ltb}
use lib.Dec.{eqb}
use lib.ListN.{length, length-append, take, drop}
use lib.Seq.{take_at}
use Rattle.order.specs.Sum.{sum}
use Rattle.order.proofs.Sums.{sum-suc, sum_mono, sum-const, delta-same, delta-other}
use Rattle.order.proofs.Tables.{joined-length-le}
use Rattle.order.proofs.Extremes.{largest-le, smallest-term}
use Rattle.model.specs.Plan.{Plan, machines, block_count, block_of}
use Rattle.model.specs.Refusal.{max_machines, Verdict, refused, accepted, judge}
use Rattle.model.specs.Replication.{share, chosen}
use Rattle.model.specs.Placement.{bit, word_of, held, count_of, replicas, Feasible, first_placement, share_of, load, max_load_of, min_load_of, total_load_of, max_share}
use Rattle.model.specs.Steps.{run}
use Rattle.model.specs.Calls.{turned_back, answered, Outcome, refuse, report_of}
use Rattle.model.specs.Listing.{digits, decimal, number_field, fields, line, plan_line, holders, block_line, end_word, last_line, listing_of, refused_line, printed_of, printed, listing_room, short_room, room_refusal, wrote, listing_call, print_call}
use Rattle.theory.specs.Widths.{share_bound, load_bound}
use Rattle.theory.specs.Refusal.{Valid}
use Rattle.theory.specs.Listing.{ListingFits}
use Rattle.theory.proofs.Plan.{machines-pos}
use Rattle.theory.proofs.Replication.{feasible_counts-range}
use Rattle.theory.proofs.Placement.{bit_le, bit-cases, bit-zero, bit-above-from, bit-take, share_of-feasible}
use Rattle.theory.proofs.PlacementFirst.{first_placement-feasible}
use Rattle.theory.proofs.StepsNext.{runs, run-feasible}
use Rattle.theory.proofs.Calls.{unless-none, unless-some, on_plan-verdict, on_plan-made}

-- ── digits ───────────────────────────────────────────────────────────────────────────────────────
digits-one : (n : ℕ) → n < 10 → (more : ℕ) → digits (suc more) n ≡ (48 + n) ∷ []
unfolding digits
digits-one n h more = rw (lt-ltb n 10 h, mod-eq_of_lt h)

digits_more : (more n : ℕ) → 10 ≤ n → digits (suc more) n ≡ digits more (n / 10) ++ (48 + n % 10) ∷ []
unfolding digits
digits_more more n h = rw (le-ltb n 10 h)

-- any bound above the number will do
digits-bound : (a b n : ℕ) → n < a → n < b → digits a n ≡ digits b n
digits-bound zero b n h l = absurd (not-suc-le-zero h)
digits-bound (suc a) zero n h l = absurd (not-suc-le-zero l)
digits-bound (suc a) (suc b) n h l = elim (dec_lt n 10) [
  | yes small ↦ digits-one n small a ∙ sym (digits-one n small b)
  | no large ↦
      digits_more a n (omega arith)
      ∙ ap (λ (s : List ℕ). s ++ (48 + n % 10) ∷ []) (digits-bound a b (n / 10) (omega arith) (omega arith))
      ∙ sym (digits_more b n (omega arith))
]

-- ── decimal ──────────────────────────────────────────────────────────────────────────────────────
pub decimal-one : (n : ℕ) → n < 10 → decimal n ≡ (48 + n) ∷ []
unfolding decimal
decimal-one n h = digits-one n h n

pub decimal-more : (n : ℕ) → 10 ≤ n → decimal n ≡ decimal (n / 10) ++ (48 + n % 10) ∷ []
unfolding decimal
decimal-more n h =
    digits_more n n h
    ∙ ap (λ (s : List ℕ). s ++ (48 + n % 10) ∷ []) (digits-bound n (suc (n / 10)) (n / 10) (omega arith) (omega arith))

pub decimal-length : (k n : ℕ) → n < 10 ^ suc k → length (decimal n) ≤ suc k
decimal-length zero n h = rw (decimal-one n h) (omega arith)
decimal-length (suc k) n h = elim (dec_lt n 10) [
  | yes small ↦ rw (decimal-one n small) (omega arith)
  | no large ↦
      let p = pow-suc 10 (suc k) in
      let later = decimal-length k (n / 10) (omega arith) in
      rw (decimal-more n (omega arith)) (simp length-append (omega arith))
]

-- ── number_field ──────────────────────────────────────────────────────────────────────────────────
pub number_field-length : (k n : ℕ) → n < 10 ^ suc k → length (number_field n) ≤ suc (suc k)
unfolding number_field
number_field-length k n h = let l = decimal-length k n h in omega arith

-- ── fields ───────────────────────────────────────────────────────────────────────────────────────
pub fields-none : length (fields []) ≡ 0
unfolding fields
fields-none = refl

pub fields-cons : (n : ℕ) (later : List ℕ) → length (fields (n ∷ later)) ≡ length (number_field n) + length (fields later)
unfolding fields
fields-cons n later = length-append (number_field n) (fields later)

pub fields-append : (a b : List ℕ) → fields (a ++ b) ≡ fields a ++ fields b
unfolding fields
fields-append [] b = refl
fields-append (n ∷ a) b =
    ap (λ (s : List ℕ). number_field n ++ s) (fields-append a b) ∙ sym (append_assoc (number_field n) (fields a) (fields b))

-- ── line ─────────────────────────────────────────────────────────────────────────────────────────
pub line-length : (word numbers : List ℕ) → length (line word numbers) ≡ length word + length (fields numbers) + 1
unfolding line
line-length word numbers = simp length-append (omega arith)

-- ── plan_line ─────────────────────────────────────────────────────────────────────────────────────
plan_line-length : (p : Plan) → Valid p → length (plan_line p) ≤ 32
unfolding plan_line
plan_line-length p valid =
    let shaped = valid.shaped in
    let racks : p.racks * 1 ≤ machines p = mul-le-mul_left p.racks shaped.size-pos in
    let size : 1 * p.rack_size ≤ machines p = mul-le-mul_right p.rack_size shaped.racks-pos in
    let a = number_field-length 1 p.racks (omega arith) in
    let b = number_field-length 1 p.rack_size (omega arith) in
    let c = number_field-length 3 (block_count p) (omega arith) in
    rw (line-length, fields-cons, fields-cons, fields-cons) (omega (arith, fields-none))

-- ── holders ──────────────────────────────────────────────────────────────────────────────────────
holders-suc : (word n : ℕ) → holders word (suc n) ≡ holders word n ++ cond (eqb (bit word n) 1) (n ∷ []) []
unfolding holders
holders-suc word n = refl

-- one machine more: its field or nothing
holders-step : (word n : ℕ) → n < 64 → length (fields (holders word n)) ≤ 3 * sum n (bit word)
    → (bit word n ≡ 0) ⊎ (bit word n ≡ 1) → length (fields (holders word (suc n))) ≤ 3 * sum (suc n) (bit word)
holders-step word n h before (inl off) = rw (holders-suc word n, off, append-nil) (omega (arith, sum-suc n (bit word)))
holders-step word n h before (inr on) =
    let own = number_field-length 1 n (omega arith) in
    rw (holders-suc word n, on, fields-append)
    (simp length-append (omega (arith, sum-suc n (bit word), fields-cons n [], fields-none)))

pub holders-length : (word n : ℕ) → n ≤ 64 → length (fields (holders word n)) ≤ 3 * sum n (bit word)
unfolding holders fields
holders-length word zero h = omega arith
holders-length word (suc n) h = holders-step word n h (holders-length word n (omega arith)) (bit-cases word n)

holders-off : (word n : ℕ) → bit word n ≡ 0 → holders word (suc n) ≡ holders word n
holders-off word n off = holders-suc word n ∙ (rw off (append-nil (holders word n)))

-- no bit, no machine
holders-none : (word n : ℕ) → ((k : ℕ) → k < n → bit word k ≡ 0) → holders word n ≡ []
unfolding holders
holders-none word zero off = refl
holders-none word (suc n) off = holders-off word n (off n (omega arith)) ∙ holders-none word n (λ k l. off k (omega arith))

pub holders-zero : (n : ℕ) → holders 0 n ≡ []
holders-zero n = holders-none 0 n (λ k l. bit-zero k)

-- the machines of a word below 2 ^ n are below n
pub holders-past : (word n more : ℕ) → word < 2 ^ n → holders word (more + n) ≡ holders word n
holders-past word n zero h = ap (holders word) (omega arith)
holders-past word n (suc more) h =
    ap (holders word) (omega arith)
    ∙ holders-off word (more + n) (bit-above-from word n h (more + n) (omega arith))
    ∙ holders-past word n more h

-- the lowest set bit is the first machine, and the others are those of the word without it
module _ (word m : ℕ) (on : bit word m ≡ 1) (first : (k : ℕ) → k < m → bit word k ≡ 0) where
  rest-low : (k : ℕ) → k < suc m → bit (word - 2 ^ m) k ≡ 0
  rest-low k l = elim (ℕ_discrete k m) [
    | yes e ↦ rw e (omega (arith, (bit-take word m on).1 m, delta-same m m refl))
    | no d ↦ omega (arith, (bit-take word m on).1 k, first k (omega arith))
  ]

  rest-high : (k : ℕ) → m < k → bit (word - 2 ^ m) k ≡ bit word k
  rest-high k l = omega (arith, (bit-take word m on).1 k, delta-other k m (λ e. omega arith))

  pub holders-low : (n : ℕ) → m < n → holders word n ≡ m ∷ holders (word - 2 ^ m) n
  holders-low zero l = absurd (not-suc-le-zero l)
  holders-low (suc n) l = elim (ℕ_discrete n m) [
    | yes e ↦
        rw (e, holders-none (word - 2 ^ m) (suc m) rest-low)
        (holders-suc word m ∙ (rw (on, holders-none word m first)))
    | no d ↦
        holders-suc word n
        ∙ ap₂ (λ (s : List ℕ) (b : ℕ). s ++ cond (eqb b 1) (n ∷ []) []) (holders-low n (omega arith)) (sym (rest-high n (omega arith)))
        ∙ ap (λ (s : List ℕ). m ∷ s) (sym (holders-suc (word - 2 ^ m) n))
  ]

-- ── block_line ────────────────────────────────────────────────────────────────────────────────────
-- of a placement whose shares are in their bound
module _ (p : Plan) (valid : Valid p) (words : List ℕ) (feasible : Feasible p (chosen p) words)
    (narrow : (i : ℕ) → i < block_count p → share (block_of p i).popularity (chosen p i) < share_bound) where
  share-narrow : (i : ℕ) → i < block_count p → share_of p words i < share_bound
  share-narrow i l = rw (share_of-feasible p (chosen p) words feasible i l) at (narrow i l)

  block_line-length : (i : ℕ) → i < block_count p → length (block_line p words i) ≤ 59
  unfolding block_line replicas
  block_line-length i l =
      let few = valid.shaped.blocks-max in
      let machines-few = valid.shaped.machines-max in
      let count = (feasible_counts-range p (chosen p) valid.shaped feasible.counts i l).1 in
      let counted = feasible.counted i l in
      let small = share-narrow i l in
      let held_on = holders-length (word_of words i) (machines p) machines-few in
      let a = number_field-length 3 i (omega arith) in
      let b = number_field-length 1 (count_of p words i) (omega arith) in
      let c = number_field-length 13 (share_of p words i) (omega arith) in
      rw (line-length, fields-cons, fields-cons, fields-cons) (omega arith)

-- ── last_line ─────────────────────────────────────────────────────────────────────────────────────
module _ (p : Plan) (valid : Valid p) (words : List ℕ) (feasible : Feasible p (chosen p) words)
    (narrow : (i : ℕ) → i < block_count p → share (block_of p i).popularity (chosen p i) < share_bound) where
  load-narrow : (m : ℕ) → load p words m ≤ load_bound
  unfolding load
  load-narrow m =
      let few = valid.shaped.blocks-max in
      let each : (i : ℕ) → i < block_count p → held words m i * share_of p words i ≤ share_bound =
      λ i l. omega (arith, mul-le-mul_right (share_of p words i) (bit_le (word_of words i) m), share-narrow p valid words feasible narrow i l)
      in
      omega (arith, sum_mono (block_count p) _ (λ i. share_bound) each, sum-const (block_count p) (share_bound))

  max-narrow : max_load_of p words ≤ load_bound
  unfolding max_load_of
  max-narrow = largest-le (machines p) (load p words) load_bound (λ m l. load-narrow m)

  min-narrow : min_load_of p words ≤ load_bound
  unfolding min_load_of
  min-narrow =
      le_trans (smallest-term (machines p) (load p words) 0 (machines-pos p valid.shaped)) (load-narrow 0)

  total-narrow : total_load_of p words ≤ load_bound * max_machines
  unfolding total_load_of
  total-narrow =
      let few = valid.shaped.machines-max in
      omega (arith, sum_mono (machines p) (load p words) (λ m. load_bound) (λ m l. load-narrow m), sum-const (machines p) load_bound)

  top-narrow : max_share p words ≤ share_bound
  unfolding max_share
  top-narrow = largest-le (block_count p) (share_of p words) (share_bound) (λ i l. omega (arith, share-narrow p valid words feasible narrow i l))

  last_line-length : (rested : Bool) (steps : ℕ) → steps < 2 ^ 32
      → length (last_line p (record { rested = rested; steps = steps; words = words })) ≤ 89
  unfolding last_line report_of
  last_line-length rested steps h =
      let word = end-length rested in
      let a = number_field-length 9 steps (omega arith) in
      let b = number_field-length 17 (max_load_of p words) (omega (arith, max-narrow)) in
      let c = number_field-length 17 (min_load_of p words) (omega (arith, min-narrow)) in
      let d = number_field-length 17 (total_load_of p words) (omega (arith, total-narrow)) in
      let e = number_field-length 13 (max_share p words) (omega (arith, top-narrow)) in
      rw (line-length, fields-cons, fields-cons, fields-cons, fields-cons, fields-cons) (omega (arith, fields-none))
    where
      end-length : (rested : Bool) → length (end_word rested) ≤ 5
      end-length true = omega arith
      end-length false = omega arith

-- ── listing_of ────────────────────────────────────────────────────────────────────────────────────
-- the placement that is listed is lawful
pub listing_of-feasible : (p : Plan) → Valid p → (limit : ℕ) → Feasible p (chosen p) (run p limit (first_placement p)).words
listing_of-feasible p valid limit = run-feasible p (chosen p) (first_placement p) (first_placement-feasible p valid) limit

pub listing_of-fits : ListingFits
unfolding listing_of
listing_of-fits p valid narrow limit h =
    let r = run p limit (first_placement p) in
    let feasible = listing_of-feasible p valid limit in
    let few = valid.shaped.blocks-max in
    let within = (runs p limit (first_placement p)).within in
    let first = plan_line-length p valid in
    let blocks = joined-length-le (block_count p) 59 (block_line p r.words) (block_line-length p valid r.words feasible narrow) in
    let last = last_line-length p valid r.words feasible narrow r.rested r.steps (omega arith) in
    simp length-append (omega arith)

-- ── refused_line ──────────────────────────────────────────────────────────────────────────────────
pub refused_line-length : (code : ℕ) → code < 256 → length (refused_line code) ≤ 12
unfolding refused_line
refused_line-length code h =
    let a = number_field-length 2 code (omega arith) in
    rw (line-length, fields-cons) (omega (arith, fields-none))

-- ── printed ──────────────────────────────────────────────────────────────────────────────────────
module _ (bytes : List ℕ) (limit : ℕ) where
  pub printed-refused : (code : ℕ) → judge bytes ≡ refused code → printed bytes limit ≡ refused_line code
  unfolding printed printed_of
  printed-refused code e = ap (λ (v : Verdict). printed_of v limit) e

  pub printed-accepted : (p : Plan) → judge bytes ≡ accepted p → printed bytes limit ≡ listing_of p limit
  unfolding printed printed_of
  printed-accepted p e = ap (λ (v : Verdict). printed_of v limit) e

-- ── room_refusal ──────────────────────────────────────────────────────────────────────────────────
pub room_refusal-short : (lent : ℕ) → lent < listing_room → room_refusal lent ≡ short_room
unfolding room_refusal
room_refusal-short lent l = rw (lt-ltb lent listing_room l)

pub room_refusal-enough : (lent : ℕ) → listing_room ≤ lent → room_refusal lent ≡ 0
unfolding room_refusal
room_refusal-enough lent l = rw (le-ltb lent listing_room l)

-- ── wrote ────────────────────────────────────────────────────────────────────────────────────────
module _ (out old text : List ℕ) where
  -- the text begins with what was written, and the answer is its length
  module _ (size : ℕ) (e : record { answer = answered size; items = text } ≡ wrote out old) where
    pub wrote-size : size ≡ length out
    unfolding wrote
    wrote-size =
        let same : answered size ≡ answered (length out) = ap (λ (o : Outcome ℕ). o.answer) e in
        cc

    wrote-items : text ≡ out ++ drop (length out) old
    unfolding wrote
    wrote-items = ap (λ (o : Outcome ℕ). o.items) e

    pub wrote-within : size ≤ length text
    wrote-within = omega (arith, wrote-size, ap length wrote-items ∙ length-append out (drop (length out) old))

    pub wrote-part : take size text ≡ out
    wrote-part = ap (take size) wrote-items ∙ take_at out (drop (length out) old) size (sym wrote-size)

  -- and it is no refusal
  pub wrote-never : (code : ℕ) → refuse code text ≡ wrote out old → ⊥
  unfolding wrote
  wrote-never code e =
      let same : turned_back code ≡ answered (length out) = ap (λ (o : Outcome ℕ). o.answer) e in
      let z : ◌≡◌ {A = ℕ} 0 1 = cc in
      omega arith

-- ── listing_call ──────────────────────────────────────────────────────────────────────────────────
module _ (bytes text : List ℕ) (limit : ℕ) where
  pub listing_call-short : length text < listing_room → listing_call bytes limit text ≡ refuse short_room text
  unfolding listing_call
  listing_call-short l = unless-some text short_room _ _ (room_refusal-short (length text) l) (omega arith)

  pub listing_call-refused : (code : ℕ) → listing_room ≤ length text → judge bytes ≡ refused code → listing_call bytes limit text ≡ refuse code text
  unfolding listing_call
  listing_call-refused code l e =
      unless-none text _ _ (room_refusal-enough (length text) l) ∙ on_plan-verdict text (λ p. 0) _ (judge bytes) code e

  pub listing_call-made : (p : Plan) → listing_room ≤ length text → judge bytes ≡ accepted p
      → listing_call bytes limit text ≡ wrote (listing_of p limit) text
  unfolding listing_call
  listing_call-made p l e =
      unless-none text _ _ (room_refusal-enough (length text) l) ∙ on_plan-made text (λ p. 0) _ (judge bytes) p e refl

-- ── print_call ────────────────────────────────────────────────────────────────────────────────────
module _ (bytes text : List ℕ) (limit : ℕ) where
  pub print_call-short : length text < listing_room → print_call bytes limit text ≡ refuse short_room text
  unfolding print_call
  print_call-short l = unless-some text short_room _ _ (room_refusal-short (length text) l) (omega arith)

  pub print_call-made : listing_room ≤ length text → print_call bytes limit text ≡ wrote (printed bytes limit) text
  unfolding print_call
  print_call-made l = unless-none text _ _ (room_refusal-enough (length text) l)
