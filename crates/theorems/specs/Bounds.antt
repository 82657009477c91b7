-- Document 01, "Steps and rest": the bound at rest, on the largest load of a settled placement against that of any feasible placement
-- of the same plan.
use Rattle.std.specs.Prelude.{◌≡◌, true, List, ◌↔◌, ℕ, ◌+◌, ◌*◌, ◌-◌, ◌<◌, ◌≤◌}
use Rattle.model.specs.Plan.{Plan, machines, block_count, block_of, is_paired, partner}
use Rattle.model.specs.Placement.{word_of, held, domains_used, used, Feasible, share_of, load, max_load_of, max_share}
use Rattle.model.specs.Steps.{shifted, AtRest}
use Rattle.theory.specs.Refusal.{Shaped, Valid}
use Rattle.theory.specs.Replication.{EvenPairs}

-- No transfer that the spreads and pairs allow lowers the higher load by more than the slack.
pub record Settled (p : Plan) (words : List ℕ) (slack : ℕ) : Type 0 where
  pub no_move : (m n i : ℕ) → m < machines p → n < machines p → i < block_count p
      → held words m i ≡ 1 → held words n i ≡ 0
      → used p words n < p.capacity → 0 < share_of p words i
      → (block_of p i).min_domains ≤ domains_used p (shifted (word_of words i) m n)
      → (is_paired p i ≡ true → held words n (partner p i) ≡ 0)
      → load p words m ≤ load p words n + share_of p words i + slack
  pub no-swap : (m n i j : ℕ) → m < machines p → n < machines p → i < block_count p → j < block_count p
      → held words m i ≡ 1 → held words n i ≡ 0 → held words n j ≡ 1 → held words m j ≡ 0
      → share_of p words j < share_of p words i
      → (block_of p i).min_domains ≤ domains_used p (shifted (word_of words i) m n)
      → (block_of p j).min_domains ≤ domains_used p (shifted (word_of words j) n m)
      → (is_paired p i ≡ true → (partner p i ≡ j → ⊥) → held words n (partner p i) ≡ 0)
      → (is_paired p j ≡ true → (partner p j ≡ i → ⊥) → held words m (partner p j) ≡ 0)
      → load p words m + share_of p words j ≤ load p words n + share_of p words i + slack

-- A lawful placement is at rest exactly if it is settled with slack 0.
abbrev pub RestSettled : Type 0
RestSettled =
    (p : Plan) → Shaped p → (count : ℕ → ℕ) (words : List ℕ) → Feasible p count words → AtRest p words ↔ Settled p words 0

-- Where every spread is one, and the two blocks of a pair have as many copies, as at the chosen counts; the other placement's need not.
abbrev pub OneSpread : Type 0
OneSpread =
    (p : Plan) (words other : List ℕ) (count count' : ℕ → ℕ) (slack : ℕ)
    → Valid p → Feasible p count words → EvenPairs p count → Settled p words slack → Feasible p count' other
    → ((i : ℕ) → i < block_count p → (block_of p i).min_domains ≡ 1)
    → machines p * max_load_of p words ≤ machines p * max_load_of p other + (machines p - 1) * (max_share p words + slack)

-- For any spreads, where no machine is full.
abbrev pub LargerSpreads : Type 0
LargerSpreads =
    (p : Plan) (words other : List ℕ) (count count' : ℕ → ℕ) (slack : ℕ)
    → Valid p → Feasible p count words → EvenPairs p count → Settled p words slack → Feasible p count' other
    → ((m : ℕ) → m < machines p → used p words m < p.capacity)
    → machines p * max_load_of p words ≤ machines p * max_load_of p other + 3 * (machines p - 1) * (max_share p words + slack)
