-- `position::common_at` meets its contract.
use Prim.Native.Nat.{ℕ, ◌+◌, ◌≤◌}
use mathlib.Core.Path.{◌≡◌, refl, sym, ◌∙◌, ap}
use mathlib.Core.List.{List}
use lib.ListN.{replicate, set}
use native.Mathlib.Omega.{arith}
use Rattle.answer.specs.Lists.{filled}
use Rattle.answer.proofs.Lists.{filled_start, filled_step}
use Rattle.bits.specs.Bits.{field}
use Rattle.resource.specs.Values.{fields_of}
use Rattle.resource.proofs.Fields.{fields_most}
use Rattle.channel.specs.Layout.{subfields, common, value_at, total}
use Rattle.channel.proofs.Laws.{total_next}
use Rattle.position.specs.Walk.{value_from, common_at}
use Rattle.position.specs.Engine.{past_check}
use Rattle.position.proofs.Steps.{reached, reached_none, reached_le, value_reached, reached_next, reached_all}
use Rattle.position.proofs.Whole.{subfields_1}
use Rattle.position.proofs.common_at.Goals as goal

-- the next subfield's first bit, and its value
here : (c : goal.After-fields_of)
    → c.past_check-next.result
    ≡ c.args.at + value_at c.args.bw
    c.loop-k.k
here c =
    c.past_check-next.ensures
    ∙ ap (λ (x : ℕ). past_check x (c.args.at + c.first_bits.result)) c.loop-k.invariant.4
    ∙ ap (λ (x : ℕ). past_check (c.args.at + reached c.args.bw c.loop-k.k) (c.args.at + x)) c.first_bits.ensures.value
    ∙ value_reached c.args.bw c.args.at c.loop-k.k

read : (c : goal.After-fields_of)
    → c.value_from-v.result
    ≡ value_from c.args.s.now
    c.args.at
    c.args.bw c.loop-k.k
unfolding value_from
read c = c.value_from-v.ensures ∙ ap (λ (x : ℕ). field c.args.s.now x 9) (here c)

most : (c : goal.After-fields_of) → c.fields_of.result ≤ 9
most c = rw c.fields_of.ensures (fields_most c.value_from-v.result)

start : (f : ℕ → ℕ) → 0 ≡ total f 0
unfolding total
start f = refl

pub loop-k-init : goal.loop-k-init
loop-k-init c = (omega arith, filled_start _ _, start _, omega arith, ap (λ (x : ℕ). c.args.at + x) (sym (reached_none c.args.bw)))

pub past_check-next-requires : goal.past_check-next-requires
past_check-next-requires c = omega (arith, c.loop-k.invariant.4, reached_le c.args.bw c.loop-k.k (omega arith))

pub overflow_add-next-in-loop-k : goal.overflow_add-next-in-loop-k
overflow_add-next-in-loop-k c = omega (arith, here c, reached_next c.args.bw c.args.at c.loop-k.k, reached_le c.args.bw (c.loop-k.k + 1) (omega arith))

pub loop-k-preserved : goal.loop-k-preserved
loop-k-preserved c = let f : ℕ → ℕ = λ i. fields_of (value_from c.args.s.now c.args.at c.args.bw i) in
    let e : c.fields_of.result ≡ f c.loop-k.k = c.fields_of.ensures ∙ ap fields_of (read c) in (
      omega arith,
      ap (λ (r : List ℕ). set r c.loop-k.k c.value_from-v.result) c.loop-k.invariant.1
          ∙ filled_step (value_from c.args.s.now c.args.at c.args.bw) c.loop-k.k c.value_from-v.result (replicate 8 0) (omega arith) (read c),
      ap (λ (x : ℕ). x + c.fields_of.result) c.loop-k.invariant.2 ∙ ap (λ (x : ℕ). total f c.loop-k.k + x) e ∙ total_next f c.loop-k.k,
      omega (arith, most c, c.loop-k.invariant.3),
      ap (λ (x : ℕ). x + 9) (here c) ∙ reached_next c.args.bw c.args.at c.loop-k.k,
    )

pub overflow_add-result : goal.overflow_add-result
overflow_add-result c = omega (arith, c.loop-k.invariant.4, reached_le c.args.bw c.loop-k.k (omega arith))

pub returns : goal.returns
unfolding common_at
returns c = let e : c.loop-k.k ≡ subfields c.args.bw = (let h : c.loop-k.k ≡ c.subfields_of-n.result = omega arith in h ∙ c.subfields_of-n.ensures.value ∙
    subfields_1 c.args.bw) in
    let f = value_from c.args.s.now c.args.at c.args.bw in
    let vs : c.loop-k.values ≡ filled f (subfields c.args.bw) (replicate 8 0) = c.loop-k.invariant.1 ∙ ap (λ (k : ℕ). filled f k (replicate 8 0)) e in
    let t : c.loop-k.count ≡ total (λ i. fields_of (f i)) (subfields c.args.bw) = c.loop-k.invariant.2 ∙ ap (total (λ i. fields_of (f i))) e in
    let x : c.loop-k.next + 10 ≡ c.args.at + common c.args.bw =
    ap (λ (y : ℕ). y + 10) (c.loop-k.invariant.4 ∙ ap (λ (k : ℕ). c.args.at + reached c.args.bw k) e) ∙ reached_all c.args.bw c.args.at in
    rw (c.field_at-overflow.ensures, vs, t, x)
