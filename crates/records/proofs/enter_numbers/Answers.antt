-- `records::enter_numbers` meets its contract.
use Rattle.records.proofs.Tables.{kind_in, kind_known}
use Rattle.records.proofs.Listing.{next_length, records_most, here_is}
use Rattle.records.specs.Records.{list_at, records_from}
use Rattle.records.specs.Engine.{numbers_of}
use Rattle.answer.specs.Lists.{at}
use Rattle.answer.proofs.Lists.{filled_start, filled_step}
use Rattle.plan.specs.Engine.{only_plan}
use Rattle.std.proofs.Common.{length, replicate, set, length-set, List, ℕ, arith, ◌≡◌, refl, ap, ◌∙◌}
use lib.ListN.{length-replicate}
use Rattle.records.proofs.enter_numbers.Goals as goal

pub loop-p-init : goal.loop-p-init
loop-p-init c =
    let f : ℕ → ℕ = λ q. length (records_from (only_plan (at c.args.row.now)) (at c.args.row.now) q) in
    (ap length c.requires.0 ∙ length-replicate {A = ℕ} 17 0, refl, c.requires.0 ∙ filled_start f (replicate 17 0))

pub listed_of-sum-requires : goal.listed_of-sum-requires
listed_of-sum-requires c = (kind_known c.args.kinds.now c.args.row.now c.loop-p.p c.requires.2 (omega arith), omega arith)

pub overflow_add-sum : goal.overflow_add-sum
overflow_add-sum c = omega (arith, records_most (only_plan (at c.args.row.now)) (at c.args.row.now) c.loop-p.p)

pub loop-p-preserved : goal.loop-p-preserved
loop-p-preserved c =
    let k = kind_in c.args.kinds.now c.args.row.now c.loop-p.p c.requires.2 (omega arith) in
    let h : c.listed_of-sum.result ≡ length (list_at (only_plan (at c.args.row.now) c.loop-p.p) (at c.args.row.now) c.loop-p.p) =
    here_is (at c.args.row.now) _ _ _ _ k c.value_at.ensures c.listed_of-sum.ensures.0 in (
      length-set c.loop-p.before c.loop-p.p c.loop-p.sum ∙ c.loop-p.invariant.0,
      omega (arith, h, next_length (only_plan (at c.args.row.now)) (at c.args.row.now) c.loop-p.p),
      ap (λ (w : List ℕ). set w c.loop-p.p c.loop-p.sum) c.loop-p.invariant.2
          ∙ filled_step _ c.loop-p.p c.loop-p.sum (replicate 17 0) (omega (arith, length-replicate {A = ℕ} 17 0)) c.loop-p.invariant.1,
    )

pub returns : goal.returns
unfolding numbers_of
returns c =
    let e : c.loop-p.p ≡ length c.args.row.now = omega arith in
    let f : ℕ → ℕ = λ q. length (records_from (only_plan (at c.args.row.now)) (at c.args.row.now) q) in
    rw e at (ap (λ (w : List ℕ). set w c.loop-p.p c.loop-p.sum) c.loop-p.invariant.2
    ∙ filled_step f c.loop-p.p c.loop-p.sum (replicate 17 0) (omega (arith, length-replicate {A = ℕ} 17 0)) c.loop-p.invariant.1)
