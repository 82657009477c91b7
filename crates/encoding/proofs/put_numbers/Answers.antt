-- `encoding::put_numbers` meets its contract. The loop's invariant: the numbers passed stand in the buffer, and the others are left.
-- Assumes nothing.
use Rattle.std.proofs.Common.{rules, ◌≡◌, ◌<◌, ◌+◌, ℕ, List, ◌∷◌, length, get_or, drop, arith, length-append, length-drop, drop-drop, sym, ap, ◌∙◌, add-zero}
use Rattle.std.proofs.lemmas.List.{get_or-drop}
use Rattle.order.specs.Table.{joined}
use Rattle.order.proofs.Tables.{joined-zero}
use Rattle.model.specs.Writing.{bytes_of}
use Rattle.text.specs.Pasted.{Room, Put}
use Rattle.text.proofs.Laws.{put-none, joined-room, joined-put}
use Rattle.encoding.specs.Pieces.{number_at, numbers_bytes}
use Rattle.encoding.proofs.put_numbers.Goals as goal

-- the first of the numbers that are left, and those behind it
module _ (n : ℕ) (xs : List ℕ) {rest : List ℕ} {x : ℕ} (left : x ∷ rest ≡ drop n xs) where
  left-more : n < length xs
  left-more = let e = ap length left in let size = length-drop n xs in omega arith

  left-first : get_or xs n 0 ≡ x
  left-first = sym (ap (λ (l : List ℕ). get_or l 0 0) left ∙ get_or-drop n xs 0 0 ∙ ap (λ (m : ℕ). get_or xs m 0) (add-zero n))

  left-behind : rest ≡ drop (n + 1) xs
  left-behind = ap (drop 1) left ∙ drop-drop 1 n xs

module _ (at n : ℕ) (widths numbers old : List ℕ) (room : Room at (numbers_bytes widths numbers) old) (width number : ℕ) (ws ns : List ℕ)
    (wide : width ∷ ws ≡ drop n widths) (next_one : number ∷ ns ≡ drop n numbers) where
  first-is : number_at widths numbers n ≡ bytes_of width number
  first-is = rw (left-first n widths wide, left-first n numbers next_one)

  number-room : {text : List ℕ} {next : ℕ} → Put at (joined n (number_at widths numbers)) old text next → Room next (bytes_of width number) text
  unfolding numbers_bytes
  number-room {text} {next} put = rw first-is at (joined-room _ _ _ _ _ room (left-more n widths wide) put)

  number-put : {text text' : List ℕ} {next next' : ℕ} → Put at (joined n (number_at widths numbers)) old text next
      → Put next (bytes_of width number) text text' next' → Put at (joined (n + 1) (number_at widths numbers)) old text' next'
  unfolding numbers_bytes
  number-put {text} {text'} {next} {next'} put then =
      joined-put _ _ _ _ _ room (left-more n widths wide) put (rw first-is then)

pub loop-width-init : goal.loop-width-init
loop-width-init c = record { passed = omega arith; widths_left = search rules; numbers_left = search rules; put = rw (joined-zero _) (put-none _ _) }

pub put_number-next-requires : goal.put_number-next-requires
put_number-next-requires c =
    let inv = c.loop-width.invariant in
    let steps = c.in-Some.ensures.steps in
    number-room _ _ _ _ _ c.requires.room _ _ c.next.new.self.a.rest.now c.next.new.self.b.rest.now (cc) (cc) inv.put

pub loop-width-preserved : goal.loop-width-preserved
loop-width-preserved c =
    let inv = c.loop-width.invariant in
    let steps = c.in-Some.ensures.steps in
    let wide : c.in-Some.field-0-0.now ∷ c.next.new.self.a.rest.now ≡ drop (length c.loop-width.yielded) c.args.widths.now = cc in
    let number : c.in-Some.field-0-1.now ∷ c.next.new.self.b.rest.now ≡ drop (length c.loop-width.yielded) c.args.numbers.now = cc in
    let n = length c.loop-width.yielded in
    let more : length c.loop-width.yielded < length c.args.widths.now = left-more n c.args.widths.now wide in
    simp length-append (record {
      passed = omega arith;
      widths_left = left-behind n c.args.widths.now wide;
      numbers_left = left-behind n c.args.numbers.now number;
      put = number-put _ _ _ _ _ c.requires.room _ _ _ _ wide number inv.put c.put_number-next.ensures;
    })

pub returns : goal.returns
unfolding numbers_bytes
returns c =
    let inv = c.loop-width.invariant in
    let wide = ap length inv.widths_left ∙ length-drop (length c.loop-width.yielded) c.args.widths.now in
    let number = ap length inv.numbers_left ∙ length-drop (length c.loop-width.yielded) c.args.numbers.now in
    let all : length c.loop-width.yielded ≡ length c.args.widths.now = grind (arith, c.in-None.ensures.steps, c.requires.as_many) in
    rw all at inv.put
