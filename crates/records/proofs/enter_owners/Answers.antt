-- `records::enter_owners` meets its contract.
use Rattle.records.proofs.Entering.{bit_is, bit_most, only_below, owner_next, owner_most, enter, few_here}
use Rattle.records.specs.Records.{in_channel}
use Rattle.records.specs.Engine.{owner_at}
use Rattle.resource.specs.Values.{fields_of, divides}
use Rattle.answer.specs.Lists.{at}
use Rattle.plan.specs.Engine.{only_plan}
use Rattle.std.proofs.Common.{length, replicate, Bool, cond, List, ◌≡◌, sym, ap, ◌∙◌, ℕ, ◌+◌, ◌<◌, arith}
use lib.ListN.{length-replicate}
use Rattle.records.proofs.enter_owners.Goals as goal

-- the fields that the position gives the channel
fields_here : (x p : ℕ) (r : List ℕ) {v f g : ℕ} → v ≡ at r p → f ≡ fields_of v → g ≡ in_channel x p f → g ≡ in_channel x p (fields_of (at r p))
fields_here x p r a b d = d ∙ ap (in_channel x p) (b ∙ ap fields_of a)

pub overflow_add-owners : goal.overflow_add-owners
overflow_add-owners c =
    let f = fields_here c.args.channel c.args.p c.args.row.now c.value_at-v.ensures c.fields_of.ensures (c.from-f.ensures ∙ c.in_channel.ensures) in
    let few = few_here c.args.channel (at c.args.row.now) c.args.p (length c.args.row.now) c.requires.row_len_bound.1 c.requires.row_len_bound.0 in
    omega (arith, c.requires.j_value.0)

pub offset_bounds-owners-j : goal.offset_bounds-owners-j
offset_bounds-owners-j c =
    let f = fields_here c.args.channel c.args.p c.args.row.now c.value_at-v.ensures c.fields_of.ensures (c.from-f.ensures ∙ c.in_channel.ensures) in
    let few = few_here c.args.channel (at c.args.row.now) c.args.p (length c.args.row.now) c.requires.row_len_bound.1 c.requires.row_len_bound.0 in
    omega (arith, c.requires.j_value.0)

pub bounds-owners-j : goal.bounds-owners-j
bounds-owners-j c =
    let f = fields_here c.args.channel c.args.p c.args.row.now c.value_at-v.ensures c.fields_of.ensures (c.from-f.ensures ∙ c.in_channel.ensures) in
    let few = few_here c.args.channel (at c.args.row.now) c.args.p (length c.args.row.now) c.requires.row_len_bound.1 c.requires.row_len_bound.0 in
    omega (arith, c.requires.j_value.0)

pub overflow_add-number : goal.overflow_add-number
overflow_add-number c =
    let f = fields_here c.args.channel c.args.p c.args.row.now c.value_at-v.ensures c.fields_of.ensures (c.from-f.ensures ∙ c.in_channel.ensures) in
    let few = few_here c.args.channel (at c.args.row.now) c.args.p (length c.args.row.now) c.requires.row_len_bound.1 c.requires.row_len_bound.0 in
    let r = at c.args.row.now in
    let most = owner_most (only_plan r) r c.args.p c.loop-k.k (only_below r c.args.p) in
    omega (arith, most, c.from-step.ensures, bit_most c.is_divided.result)

pub loop-k-preserved : goal.loop-k-preserved
loop-k-preserved c =
    let f = fields_here c.args.channel c.args.p c.args.row.now c.value_at-v.ensures c.fields_of.ensures (c.from-f.ensures ∙ c.in_channel.ensures) in
    let few = few_here c.args.channel (at c.args.row.now) c.args.p (length c.args.row.now) c.requires.row_len_bound.1 c.requires.row_len_bound.0 in
    let r = at c.args.row.now in
    let o = only_plan r in
    let st : c.from-step.result ≡ cond (divides (r c.args.p)) 1 0 =
    c.from-step.ensures ∙ bit_is _ ∙ ap (λ (x : Bool). cond x 1 0) (c.is_divided.ensures ∙ ap divides c.value_at-v.ensures) in
    let room : c.args.j + c.loop-k.k < length (replicate {A = ℕ} 72 144) = omega (arith, length-replicate {A = ℕ} 72 144, c.requires.j_value.0) in (
      ap (λ (x : ℕ). x + c.from-step.result) c.loop-k.invariant.0 ∙ ap (λ (x : ℕ). owner_at o r c.args.p c.loop-k.k + x) st ∙ sym
          (owner_next o r c.args.p c.loop-k.k),
      enter o r c.args.channel (length c.args.row.now) c.args.p c.args.j c.loop-k.k _ c.loop-k.number c.loop-k.owners (replicate 72 144)
          c.requires.row_len_bound.1 c.requires.j_value.0 c.loop-k-test.true f c.loop-k.invariant.0 room c.loop-k.invariant.1,
    )

pub overflow_add-result : goal.overflow_add-result
overflow_add-result c =
    let f = fields_here c.args.channel c.args.p c.args.row.now c.value_at-v.ensures c.fields_of.ensures (c.from-f.ensures ∙ c.in_channel.ensures) in
    let few = few_here c.args.channel (at c.args.row.now) c.args.p (length c.args.row.now) c.requires.row_len_bound.1 c.requires.row_len_bound.0 in
    omega (arith, c.requires.j_value.0)
