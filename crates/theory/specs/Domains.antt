-- Document 02, U6: what is claimed of the failure domains, the mains feeds. Before version 4 they are the racks.
use Rattle.std.specs.Prelude.{◌≡◌, List, ℕ, ◌%◌, ◌<◌, ◌≤◌}
use Rattle.order.specs.Sum.{sum, delta}
use Rattle.model.specs.Plan.{Plan, machines, rack_of, domain, domains, domain_size, version_in, racks_in, feeds_in}
use Rattle.model.specs.Refusal.{refusal}
use Rattle.model.specs.Placement.{position}
use Rattle.theory.specs.Refusal.{Shaped}

pub record DomainLaws (p : Plan) : Type 0 where
  -- every machine lies in one of them, with its whole rack
  pub inside : (m : ℕ) → domain p m < domains p
  pub racks-whole : (m n : ℕ) → rack_of p m ≡ rack_of p n → domain p m ≡ domain p n
  -- they are equally large
  pub equal : (d : ℕ) → d < domains p → sum (machines p) (λ m. delta (domain p m) d) ≡ domain_size p
  -- consecutive positions visit consecutive ones
  pub consecutive : (t : ℕ) → t < machines p → domain p (position p t) ≡ t % domains p
  -- where F is R, they are the racks
  pub racks : p.feeds ≡ p.racks → (m : ℕ) → m < machines p → domain p m ≡ rack_of p m

abbrev pub Domains : Type 0
Domains = (p : Plan) → Shaped p → DomainLaws p

-- Versions 1 to 3 are the case F = R, which row 22 does not turn back.
pub record EarlyFeedLaws (bytes : List ℕ) : Type 0 where
  pub are-racks : version_in bytes < 4 → feeds_in bytes ≡ racks_in bytes
  pub row22-later : refusal bytes ≡ 22 → 4 ≤ version_in bytes

abbrev pub EarlyFeeds : Type 0
EarlyFeeds = (bytes : List ℕ) → EarlyFeedLaws bytes
