-- `needs::needed` meets its contract: a count below the estimate is not enough, and one more than it is.
-- Assumes nothing.
use mathlib.Core.Path.{◌≡◌, ap, ap₂, ◌∙◌}
use Prim.Native.Nat.{ℕ, suc, ◌+◌, ◌-◌, ◌*◌, ◌/◌, ◌<◌, ◌≤◌, max}
use native.Mathlib.Nat.{mul-le-mul, mul-le-mul_left, mul-le-mul_right, lt_of_not-le, le_of_lt}
use native.Mathlib.Numerals.{add-one}
use native.Mathlib.Decide.{dec_lt, dec_le}
use native.Mathlib.Omega.{arith}
use Rattle.model.specs.Replication.{unit, share}
use Rattle.theory.specs.Widths.{most_replicas, popularity_bound}
use Rattle.theory.proofs.Replication.{unit-divides, share-within}
use Rattle.cluster.specs.Blocks.{popularity_in, least_in, most_in}
use Rattle.needs.specs.Needs.{parts, NeedAsked}
use Rattle.needs.proofs.needed.Goals as goal

-- where k is not below the popularity times the scale, and one copy more is not enough, the figure in parts is hardly above k in parts
short-gap : (P figure scale k Z : ℕ) → unit * Z < suc scale * suc figure → P * scale ≤ k * Z → figure * suc k < P * unit
    → suc figure * Z ≤ k * Z + P * figure
short-gap P figure scale k Z least covered short =
    let scaled : P * suc (unit * Z) ≤ P * (suc scale * suc figure) = mul-le-mul_left P least in
    let more : P * scale * suc figure ≤ k * Z * suc figure = mul-le-mul_right (suc figure) covered in
    let lacking : suc (figure * suc k) * Z ≤ P * unit * Z = mul-le-mul_right Z short in
    omega arith

small-figure : (figure k product : ℕ) → suc figure * parts ≤ k * parts + product → product ≤ popularity_bound * figure → k ≤ most_replicas
    → figure < most_replicas
small-figure figure k product gap narrow max = omega arith

module _ (demand figure scale : ℕ) (asked : NeedAsked demand figure scale) where
  abbrev P : ℕ
  P = popularity_in demand

  -- the copies that the popularity times the scale makes, rounded up
  abbrev estimate : ℕ
  estimate = (P * scale + (parts - 1)) / parts

  -- a lawful count is enough exactly if its share is within the figure
  enough-within : (k : ℕ) → least_in demand ≤ k → k ≤ most_in demand → P * unit ≤ figure * k → share P k ≤ figure
  enough-within k low high =
      let d = asked.in-range in
      (share-within P k figure (unit-divides k (omega (arith, d.least-pos)) (omega (arith, d.most-max)))).1

  short-above : (k : ℕ) → least_in demand ≤ k → k ≤ most_in demand → figure * k < P * unit → figure < share P k
  short-above k low high l =
      let d = asked.in-range in
      let within = (share-within P k figure (unit-divides k (omega (arith, d.least-pos)) (omega (arith, d.most-max)))).0 in
      lt_of_not-le (λ h. omega (arith, within h))

  -- the upper count is
  most-enough : P * unit ≤ figure * most_in demand
  most-enough =
      let d = asked.in-range in
      (share-within P (most_in demand) figure (unit-divides _ (omega (arith, d.least-pos, d.least-most)) d.most-max)).0 asked.most-within

  short-most : (k : ℕ) → figure * k < P * unit → k < most_in demand
  short-most k l = lt_of_not-le (λ h. let more : figure * most_in demand ≤ figure * k = mul-le-mul_left figure h in omega (arith, most-enough))

  most-max : figure * most_in demand ≤ figure * most_replicas
  most-max = mul-le-mul_left figure asked.in-range.most-max

  -- a product with the scale is at most the most copies in parts
  product-max : P * scale ≤ most_replicas * parts
  product-max =
      elim (dec_le (P * scale) (most_replicas * parts)) [
        | yes l ↦ l
        | no l ↦ absurd
            (let more : suc (most_replicas * parts) * suc figure ≤ P * scale * suc figure = mul-le-mul_right (suc figure) (lt_of_not-le l) in
            let scaled : P * (scale * suc figure) ≤ P * (unit * parts) = mul-le-mul_left P asked.scale_of.scale-max in
            omega (arith, most-enough, most-max))
      ]

  -- a count below the estimate is not enough
  estimate-below : (j : ℕ) → j < estimate → figure * j < P * unit
  estimate-below j less =
      elim (dec_lt (figure * j) (P * unit)) [
        | yes l ↦ l
        | no l ↦ absurd
            (let more : suc (j * parts) * suc figure ≤ P * scale * suc figure = mul-le-mul_right (suc figure) (omega arith) in
            let scaled : P * (scale * suc figure) ≤ P * (unit * parts) = mul-le-mul_left P asked.scale_of.scale-max in
            omega arith)
      ]

  estimate-max : estimate ≤ most_in demand
  estimate-max =
      elim (dec_le estimate (most_in demand)) [
        | yes l ↦ l
        | no l ↦ absurd (omega (arith, estimate-below (most_in demand) (omega arith), most-enough))
      ]

  -- one copy more than the estimate is: the estimate falls short by less than a copy, as the figure is not small where the
  -- popularity is not 0
  estimate-next : (k : ℕ) → estimate ≤ k → k ≤ most_in demand → P * unit ≤ figure * suc k
  estimate-next k low high =
      elim (dec_le (P * unit) (figure * suc k)) [
        | yes l ↦ l
        | no l ↦ absurd
            (let gap = short-gap P figure scale k parts asked.scale_of.scale-next (omega arith) (lt_of_not-le l) in
            let narrow : P * figure ≤ popularity_bound * figure = mul-le-mul_right figure (le_of_lt asked.in-range.popularity-narrow) in
            let few : figure < most_replicas = small-figure figure k (P * figure) gap narrow (omega (arith, asked.in-range.most-max)) in
            omega (arith, most-enough, most-max))
      ]

  -- the count to begin with
  module _ (k : ℕ) (is : k ≡ max estimate (least_in demand)) where
    count-low : least_in demand ≤ k
    count-low = omega arith

    count-max : k ≤ most_in demand
    count-max = omega (arith, estimate-max, asked.in-range.least-most)

-- from the numbers that were read
count-is : (demand figure scale popularity least k : ℕ) (asked : NeedAsked demand figure scale) → popularity ≡ popularity_in demand → least ≡ least_in demand
    → k ≡ max ((popularity * scale + (parts - 1)) / parts) least → k ≡ max (estimate demand figure scale asked) (least_in demand)
count-is demand figure scale popularity least k asked popular low is =
    is ∙ ap₂ max (ap (λ (x : ℕ). (x * scale + (parts - 1)) / parts) popular) low

pub overflow_mul-estimate : goal.overflow_mul-estimate
overflow_mul-estimate c = rw c.popularity_of-popularity.ensures (omega (arith, product-max _ _ _ c.requires))

pub overflow_add-estimate : goal.overflow_add-estimate
overflow_add-estimate c = rw c.popularity_of-popularity.ensures (omega (arith, product-max _ _ _ c.requires))

pub overflow_mul-figure : goal.overflow_mul-figure
overflow_mul-figure c =
    let asked = c.requires in
    let is = count-is _ _ _ _ _ _ asked c.popularity_of-popularity.ensures c.least_of.ensures c.max-k.ensures in
    let product = mul-le-mul asked.wanted-narrow (count-max _ _ _ asked _ is) in
    omega (arith, asked.in-range.most-max)

pub overflow_add-result : goal.overflow_add-result
overflow_add-result c =
    let asked = c.requires in
    let is = count-is _ _ _ _ _ _ asked c.popularity_of-popularity.ensures c.least_of.ensures c.max-k.ensures in
    omega (arith, count-max _ _ _ asked _ is, asked.in-range.most-max)

pub returns-then-figure-k : goal.returns-then-figure-k
returns-then-figure-k c =
    let asked = c.requires in
    let P-is = c.popularity_of-popularity.ensures in
    let k = c.max-k.result in
    let is = count-is _ _ _ _ _ _ asked P-is c.least_of.ensures c.max-k.ensures in
    let low = count-low _ _ _ asked k is in
    let high = count-max _ _ _ asked k is in
    let back : k + 1 - 1 ≡ k = omega arith in
    let short : c.args.figure * k < popularity_in c.args.demand * unit = rw (← P-is) c.if-figure-k.true in
    let below = short-most _ _ _ asked k short in
    record {
      low = omega arith;
      high = omega arith;
      within = enough-within _ _ _ asked (k + 1) (omega arith) (omega arith)
          (rw add-one (estimate-next _ _ _ asked k (omega (arith, is)) high));
      less-above = λ l. rw back (short-above _ _ _ asked k low high short);
    }

pub returns : goal.returns
returns c =
    let asked = c.requires in
    let P-is = c.popularity_of-popularity.ensures in
    let k = c.max-k.result in
    let is = count-is _ _ _ _ _ _ asked P-is c.least_of.ensures c.max-k.ensures in
    let low = count-low _ _ _ asked k is in
    let high = count-max _ _ _ asked k is in
    record {
      low = low;
      high = high;
      within = enough-within _ _ _ asked k low high (rw (← P-is) c.if-figure-k.false);
      less-above = λ l.
          short-above _ _ _ asked (k - 1) (omega arith) (omega arith) (estimate-below _ _ _ asked (k - 1) (omega (arith, is)));
    }
