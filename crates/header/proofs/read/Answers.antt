-- `header::read` meets its contract: what each callee says of its rows goes into the chain of all rows.
-- Assumes nothing.
use mathlib.Core.Path.{◌≡◌, refl, ap, ap₂, sym, ◌∙◌}
use mathlib.Core.List.{List}
use Prim.Native.Nat.{ℕ}
use native.Mathlib.Omega.{arith}
use lib.ListN.{length}
use Rattle.model.specs.Plan.{racks_in, rack_size_in, feeds_in, capacity_in, block_count_in, Format, format_in, record_at, plan_in}
use Rattle.model.specs.Refusal.{or_else, check4, check22, check5, check6, check7, plan_refusal, refusal}
use Rattle.theory.proofs.Refusal.{or_else-some, check4-zero, check22-zero, check5-zero, check6-rest, check6-zero, check7-zero}
use Rattle.std.proofs.lemmas.Result.{err_from_is_err_and}
use Rattle.refusal.proofs.Laws.{number_of-pos, number_of-some}
use Rattle.header.specs.Header.{header_counted, counted_blocks, HallRows, SizeRows}
use Rattle.header.specs.declared.Header.{Header}
use Rattle.header.proofs.Laws.{counted_blocks-long, counted_blocks-counted, counted_blocks-rows}
use Rattle.header.proofs.read.Goals as goal

-- the rows of the header that was read, with its own count of blocks
module _ (bytes : List ℕ) (h : Header) (is : h ≡ header_counted (counted_blocks bytes) bytes) where
  -- checks 4, 22 and 5
  hall-code : (hall : ℕ) → HallRows h.cluster.racks h.cluster.rack_size h.cluster.feeds h.cluster.capacity hall → (later : ℕ)
      → check4 (racks_in bytes) (rack_size_in bytes) (check22 (racks_in bytes) (feeds_in bytes) (check5 (capacity_in bytes) later))
      ≡ or_else hall later
  unfolding header_counted
  hall-code hall rows later =
      ap (λ (h : Header). check4 h.cluster.racks h.cluster.rack_size (check22 h.cluster.racks h.cluster.feeds (check5 h.cluster.capacity later)))
      (sym is)
      ∙ rows later

  -- the blocks
  blocks-are : h.cluster.blocks ≡ counted_blocks bytes
  unfolding header_counted
  blocks-are = ap (λ (h : Header). h.cluster.blocks) is

  -- checks 6 and 7
  size-code : (f : Format) (sized : ℕ) → f ≡ format_in bytes → SizeRows f h.cluster.blocks (length bytes) sized → (later : ℕ)
      → check6 (format_in bytes) (length bytes) (block_count_in bytes) (check7 (format_in bytes) (length bytes) (block_count_in bytes) later)
      ≡ or_else sized later
  size-code f sized same rows later =
      counted_blocks-rows bytes later
      ∙ ap₂ (λ (f : Format) (n : ℕ). check6 f (length bytes) n (check7 f (length bytes) n later)) (sym same) (sym blocks-are)
      ∙ rows later

pub returns-in_err-check_mark : goal.returns-in_err-check_mark
unfolding refusal
returns-in_err-check_mark c =
    let p = err_from_is_err_and c.from_residual.result c.from_residual.ensures.1 in
    rw (p.1, p.2) (
    record {
      is = c.in_err-check_mark.ensures.code _ ∙ or_else-some _ _ (number_of-some _);
      some = number_of-pos _;
    }
    )

pub format_in-format-requires : goal.format_in-format-requires
format_in-format-requires c = c.in_ok-check_mark.ensures.long refl

pub returns-in_err-check_hall : goal.returns-in_err-check_hall
unfolding refusal
returns-in_err-check_hall c =
    let p = err_from_is_err_and c.from_residual-in_err-check_hall.result c.from_residual-in_err-check_hall.ensures.1 in
    rw (p.1, p.2) (
    record {
      is =
          c.in_ok-check_mark.ensures.code _
          ∙ hall-code _ _ c.header-h.ensures.0 _ c.in_err-check_hall.ensures _
          ∙ or_else-some _ _ (number_of-some _);
      some = number_of-pos _;
    }
    )

pub check_size-requires : goal.check_size-requires
check_size-requires c =
    counted_blocks-counted c.args.bytes.now _ _ c.format_in-format.ensures (blocks-are _ _ c.header-h.ensures.0)

pub returns-in_err-check_size : goal.returns-in_err-check_size
unfolding refusal
returns-in_err-check_size c =
    let p = err_from_is_err_and c.from_residual-in_err-check_size.result c.from_residual-in_err-check_size.ensures.1 in
    rw (p.1, p.2) (
    record {
      is =
          c.in_ok-check_mark.ensures.code _
          ∙ hall-code _ _ c.header-h.ensures.0 0 c.in_ok-check_hall.ensures _
          ∙ size-code _ _ c.header-h.ensures.0 _ _ c.format_in-format.ensures c.in_err-check_size.ensures (plan_refusal (plan_in c.args.bytes.now))
          ∙ or_else-some _ _ (number_of-some _);
      some = number_of-pos _;
    }
    )

pub returns : goal.returns
unfolding refusal
returns c =
    let bytes = c.args.bytes.now in
    let blocks = c.header-h.result.cluster.blocks in
    let f = format_in bytes in
    let z4 = check4-zero _ _ _ (c.in_ok-check_hall.ensures 0) in
    let z22 = check22-zero _ _ _ z4.3 in
    let z5 = check5-zero _ _ z22.2 in
    let rows = rw c.format_in-format.ensures at (c.in_ok-check_size.ensures 0) in
    let size : length bytes ≡ record_at f blocks = sizes f (length bytes) blocks rows in
    let same : counted_blocks bytes ≡ block_count_in bytes = counted_blocks-long bytes (omega (arith, size)) in
    record {
      fields = rw same at c.header-h.ensures.0;
      left =
          c.in_ok-check_mark.ensures.code _
          ∙ hall-code _ _ c.header-h.ensures.0 0 c.in_ok-check_hall.ensures _
          ∙ size-code _ _ c.header-h.ensures.0 _ 0 c.format_in-format.ensures c.in_ok-check_size.ensures (plan_refusal (plan_in bytes));
      in-range =
          record {
            racks-pos = z4.0;
            size-pos = z4.1;
            feeds-pos = z22.0;
            feeds-divide = z22.1;
            machines-max = z4.2;
            capacity-max = z5.1;
            blocks-max = (check6-zero f (length bytes) blocks _ (omega (arith, size)) rows).0;
          };
      length-is = size;
    }
  where
    sizes : (f : Format) (size blocks : ℕ) → check6 f size blocks (check7 f size blocks 0) ≡ 0 → size ≡ record_at f blocks
    sizes f size blocks e = (check7-zero f size blocks 0 (check6-rest f size blocks _ e)).0
