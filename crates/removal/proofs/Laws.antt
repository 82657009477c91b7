-- Laws of the blocks that go and of words that are overwritten.
-- Assumes nothing.
use mathlib.Core.Path.{◌≡◌, refl, ap, ap₂, sym, ◌∙◌}
use mathlib.Core.Bool.{Bool, true, false, cond}
use mathlib.Core.List.{List, ◌++◌}
use Prim.Native.Nat.{ℕ, ◌+◌, ◌-◌, ◌<◌}
use native.Mathlib.Omega.{arith}
use borrow.Rule.Slice.PartMut.{put_mid}
use lib.ListN.{length, get_or, take, drop, replicate, length-append, length-take, length-drop}
use Rattle.std.proofs.Common.{append_assoc}
use lib.Seq.{paste, take-take, take_at, drop_at, drop-drop}
use Rattle.std.proofs.lemmas.Slice.{between_is}
use Rattle.order.specs.Table.{cut}
use Rattle.model.specs.Plan.{Plan, block_count, pairs_next, pairs_back}
use Rattle.model.specs.Recordings.{after_deletion}
use Rattle.theory.specs.Refusal.{Shaped}
use Rattle.theory.proofs.Plan.{is_paired-first, is_paired-back}
use Rattle.theory.proofs.Deletions.{first_gone-head, first_gone-second, first_gone-single, gone_count-paired, gone_count-single}
use Rattle.cluster.specs.declared.Cluster.{Cluster}
use Rattle.cluster.specs.Blocks.{link_of, link_in, ProfilesOf}
use Rattle.cluster.proofs.Laws.{cluster-blocks, link_of-single, profile_of-link}
use Rattle.removal.specs.declared.Gone.{Gone}
use Rattle.removal.specs.Removal.{GoneOf, GoneWith, CloseAsked, closed_up, Removed}

-- ── GoneOf ───────────────────────────────────────────────────────────────────────────────────────

-- a link of 0 says that the preceding block is the partner, one that is neither 0 nor 1 that the next one is
link-back : (p : Plan) (i : ℕ) → link_of p i ≡ 0 → pairs_back p i ≡ true
unfolding link_of
link-back p i = go (pairs_next p i) (pairs_back p i)
  where
    go : (a b : Bool) → ◌≡◌ {A = ℕ} (cond a 2 (cond b 0 1)) 0 → b ≡ true
    go true b e = absurd (omega arith)
    go false true e = refl
    go false false e = absurd (omega arith)

link-next : (p : Plan) (i : ℕ) → (link_of p i ≡ 1 → ⊥) → (link_of p i ≡ 0 → ⊥) → pairs_next p i ≡ true
unfolding link_of
link-next p i = go (pairs_next p i) (pairs_back p i)
  where
    go : (a b : Bool) → (◌≡◌ {A = ℕ} (cond a 2 (cond b 0 1)) 1 → ⊥) → (◌≡◌ {A = ℕ} (cond a 2 (cond b 0 1)) 0 → ⊥) → a ≡ true
    go true b single back = refl
    go false true single back = absurd (back refl)
    go false false single back = absurd (single refl)

pub gone-single : (p : Plan) (i : ℕ) → link_of p i ≡ 1 → GoneOf p i (record { first = i; count = 1 })
gone-single p i e =
    let alone = link_of-single p i e in
    record { first-is = sym (first_gone-single p i alone); count-is = sym (gone_count-single p i alone) }

pub gone-second : (p : Plan) (i : ℕ) → link_of p i ≡ 0 → GoneOf p i (record { first = i - 1; count = 2 })
gone-second p i e =
    let back = link-back p i e in
    record { first-is = sym (first_gone-second p i back); count-is = sym (gone_count-paired p i (is_paired-back p i back)) }

pub gone-head : (p : Plan) → Shaped p → (i : ℕ) → i < block_count p → (link_of p i ≡ 1 → ⊥) → (link_of p i ≡ 0 → ⊥)
    → GoneOf p i (record { first = i; count = 2 })
gone-head p shaped i l single back =
    let marked = link-next p i single back in
    record { first-is = sym (first_gone-head p shaped i l marked); count-is = sym (gone_count-paired p i (is_paired-first p i marked)) }

-- ── closed_up ─────────────────────────────────────────────────────────────────────────────────────

-- the words moved down, and the vacated ones cleared
pub closed_up-made : (words moved zeros : List ℕ) (blocks first count : ℕ) → CloseAsked words blocks first count
    → moved ≡ paste words first (drop (first + count) words) (blocks - (first + count)) → zeros ≡ replicate count 0
    → put_mid (blocks - count) (blocks - (blocks - count)) moved zeros ≡ closed_up blocks first count words
unfolding closed_up cut
closed_up-made words moved zeros blocks first count asked copied cleared =
    ap₂ ◌++◌ kept (ap₂ ◌++◌ cleared later)
    ∙ sym (append_assoc (cut first count (take blocks words)) (replicate count 0) (drop blocks words))
  where
    left : List ℕ
    left = take first words ++ take (blocks - (first + count)) (drop (first + count) words)

    left-sized : length left ≡ blocks - count
    left-sized =
        length-append (take first words) (take (blocks - (first + count)) (drop (first + count) words))
        ∙ (omega (arith, asked.inside, asked.room, length-take first words, length-take (blocks - (first + count)) (drop (first + count) words), length-drop (first + count) words))

    kept : take (blocks - count) moved ≡ cut first count (take blocks words)
    kept =
        ap (take (blocks - count)) copied ∙ take_at left (drop (first + (blocks - (first + count))) words) (blocks - count) left-sized
        ∙ ap₂ ◌++◌ (sym (take-take first blocks words (omega (arith, asked.inside)))) (between_is words (first + count) blocks)

    later : drop (blocks - (blocks - count)) (drop (blocks - count) moved) ≡ drop blocks words
    later =
        ap (λ (l : List ℕ). drop (blocks - (blocks - count)) (drop (blocks - count) l)) copied
        ∙ ap (drop (blocks - (blocks - count))) (drop_at left (drop (first + (blocks - (first + count))) words) (blocks - count) left-sized)
        ∙ drop-drop (blocks - (blocks - count)) (first + (blocks - (first + count))) words
        ∙ ap (λ (n : ℕ). drop n words) {x = first + (blocks - (first + count)) + (blocks - (blocks - count))} {y = blocks} (omega (arith, asked.inside))

-- ── Removed ──────────────────────────────────────────────────────────────────────────────────────

-- the words close up by the blocks that the link of the block's profile tells
pub removed-as : (p : Plan) (count : ℕ → ℕ) (c : Cluster) (profiles : List ℕ) → ProfilesOf p count c profiles
    → (i : ℕ) → i < c.blocks → (words later : List ℕ) (gone : Gone) → GoneWith (get_or profiles i 0) i gone
    → later ≡ closed_up c.blocks gone.first gone.count words → Removed p i words later gone
unfolding closed_up after_deletion
removed-as p count c profiles of i l words later gone told is =
    let blocks = cluster-blocks p c of.cluster in
    let ends = ap link_in (of.are i l) ∙ profile_of-link p count i in
    let is-of = told.of p of.cluster.valid.shaped (rw blocks at l) ends in
    record {
      words_are = rw (blocks, is-of.first-is, is-of.count-is) at is;
      gone_of = is-of;
    }
