-- Document 02, U8: recordings come and go. Which blocks a plan holds after an arrival or a deletion, where the copies of a new block go, and
-- what the words hold afterwards.
use Rattle.std.specs.Prelude.{cond, ◌&&◌, ◌||◌, List, [], ◌∷◌, ◌++◌, ℕ, zero, suc, ◌+◌, ◌-◌, ◌^◌, min, leb, ltb, eqb, take, drop, replicate}
use Rattle.order.specs.Sum.{sum}
use Rattle.order.specs.Table.{cut}
use Rattle.order.specs.Search.{lightest}
use Rattle.model.specs.Plan.{Block, Plan, machines, domain, domains, block_count, pairs_back, is_paired, max_replicas, format_of}
use Rattle.model.specs.Refusal.{refuse_if, is_refusal, max_blocks, check8, check9}
use Rattle.model.specs.Placement.{bit, replicas, replicas_in, domains_used, used, load}

-- The same plan with other blocks.
abbrev pub with_blocks : List Block → Plan → Plan
with_blocks blocks p =
    record {
      version = p.version;
      racks = p.racks;
      rack_size = p.rack_size;
      feeds = p.feeds;
      capacity = p.capacity;
      budget = p.budget;
      blocks = blocks;
    }

-- A new block is unpaired. It comes last.
abbrev pub new_block : ℕ → ℕ → ℕ → Block
new_block popularity least spread =
    record { popularity = popularity; min_replicas = least; min_domains = spread; pair_byte = 0 }

abbrev pub plan_with : Block → Plan → Plan
plan_with b p = with_blocks (p.blocks ++ (b ∷ [])) p

-- Both of a pair go together: the first of the blocks that go with block i, and how many go. Later blocks close up in order.
unfoldable pub first_gone : Plan → ℕ → ℕ
first_gone p i = cond (pairs_back p i) (i - 1) i

unfoldable pub gone_count : Plan → ℕ → ℕ
gone_count p i = cond (is_paired p i) 2 1

-- 24: 1,024 blocks stand, the popularity is past the version's field, or the entries break 8 or 9, as those of an unpaired block.
unfoldable pub entries_refusal : Plan → Block → ℕ
entries_refusal p b =
    check8 (min (max_replicas p.version) (machines p)) b.min_replicas
    (check9 (domains p) b.min_replicas b.min_domains
    0)

unfoldable pub check24 : Plan → Block → ℕ → ℕ
check24 p b later =
    refuse_if (leb max_blocks (block_count p)) 24
    (refuse_if (leb (256 ^ (format_of p.version).popularity_width) b.popularity) 24
    (refuse_if (is_refusal (entries_refusal p b)) 24
    later))

-- The machines with a free place, as a word: those that hold fewer than C copies.
unfoldable pub free_word : Plan → List ℕ → ℕ
free_word p words = sum (machines p) (λ m. cond (ltb (used p words m) p.capacity) (2 ^ m) 0)

-- 25: no lawful set of machines for the new block exists with all others unmoved: the machines with a free place are fewer than its least
-- copies, or lie in fewer domains than its spread.
unfoldable pub check25 : Plan → List ℕ → Block → ℕ → ℕ
check25 p words b =
    let free = free_word p words in
    refuse_if (ltb (replicas p free) b.min_replicas || ltb (domains_used p free) b.min_domains) 25

-- A domain weighs the sum of its machines' loads before the block came, full machines included.
unfoldable pub domain_load : Plan → List ℕ → ℕ → ℕ
domain_load p words d = sum (machines p) (λ m. cond (eqb (domain p m) d) (load p words m) 0)

-- The lightest domain with a free place in which the word has no copy, and the lightest free machine of a domain; at a tie the lowest
-- number.
unfoldable pub next_domain : Plan → List ℕ → ℕ → ℕ
next_domain p words word =
    lightest (λ d. ltb 0 (replicas_in p (free_word p words) d) && eqb (replicas_in p word d) 0) (domain_load p words) (domains p)

unfoldable pub machine_in : Plan → List ℕ → ℕ → ℕ
machine_in p words d = lightest (λ m. eqb (bit (free_word p words) m) 1 && eqb (domain p m) d) (load p words) (machines p)

-- One copy each in as many of the lightest domains with a free place.
unfoldable pub spread_word : Plan → List ℕ → ℕ → ℕ
spread_word p words zero = 0
spread_word p words (suc n) = let word = spread_word p words n in word + 2 ^ machine_in p words (next_domain p words word)

-- The lightest free machine that the word has not, and so many others on the lightest free machines left.
unfoldable pub next_machine : Plan → List ℕ → ℕ → ℕ
next_machine p words word =
    lightest (λ m. eqb (bit (free_word p words) m) 1 && eqb (bit word m) 0) (load p words) (machines p)

unfoldable pub filled_word : Plan → List ℕ → ℕ → ℕ → ℕ
filled_word p words word zero = word
filled_word p words word (suc n) = let before = filled_word p words word n in before + 2 ^ next_machine p words before

-- The new block's word: its spread's copies, then the others of its least copies.
unfoldable pub arrival_word : Plan → List ℕ → Block → ℕ
arrival_word p words b = filled_word p words (spread_word p words b.min_domains) (b.min_replicas - b.min_domains)

-- A deleted block frees its places, the words of later blocks close up in order, vacated words become 0; words past the B stay.
unfoldable pub after_deletion : Plan → ℕ → List ℕ → List ℕ
after_deletion p i words =
    cut (first_gone p i) (gone_count p i) (take (block_count p) words)
    ++ replicate (gone_count p i) 0
    ++ drop (block_count p) words
