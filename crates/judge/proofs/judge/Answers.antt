-- `judge::judge` meets its contract.
use Rattle.std.proofs.Common.{◌≡◌, sym, ◌∙◌, ap, arith, length, true≢false}
use Rattle.answer.proofs.Order.{pass_not_refuse}
use Rattle.plan.specs.Engine.{plan_outcome}
use Rattle.channel.proofs.Laws.{positions_le}
use Rattle.candidate.specs.Engine.{overflow_in}
use Rattle.candidate.proofs.Parts.{row_room, row_firsts, first_on, second_on}
use Rattle.judge.specs.Engine.{Begun}
use Rattle.judge.proofs.Steps.{row_size, lent_1}
use Rattle.judge.proofs.Formats.{PlanSays, plan_says, plan_answers}
use Rattle.judge.proofs.Decided.{not_told, told_so}
use Rattle.judge.proofs.judge.Goals as goal

pub first_part-first-requires : goal.first_part-first-requires
first_part-first-requires c = (
  omega arith,
  omega arith,
  row_firsts c.args.bw c.args.words.now c.args.row.now 1
      (lent_1 c.args.bw c.args.words.now c.args.row.now c.requires.0 c.requires.3),
)

pub second_part-second-requires : goal.second_part-second-requires
second_part-second-requires c = (
  omega arith,
  omega arith,
  row_room c.args.bw c.args.words.now c.args.row.now 1
      (lent_1 c.args.bw c.args.words.now c.args.row.now c.requires.0 c.requires.3),
)

pub are_checked-requires : goal.are_checked-requires
unfolding overflow_in
are_checked-requires c =
    let l = lent_1 c.args.bw c.args.words.now c.args.row.now c.requires.0 c.requires.3 in (
      c.requires.0,
      c.requires.1,
      first_on c.args.bw c.args.words.now c.args.row.now 1 l _ _ c.overflow_of-overflow.ensures c.first_part-first.ensures.value,
      second_on c.args.bw c.args.words.now c.args.row.now 1 l _ c.second_part-second.ensures.value,
    )

pub returns-then-not-are_checked-clause-told_value : goal.returns-then-not-are_checked-clause-told_value
returns-then-not-are_checked-clause-told_value c =
    not_told c.args.bw c.args.words.now c.requires.0 (λ t. c.are_checked.ensures.no c.if-not-are_checked.true t.checked)

pub plan_of-plan-requires : goal.plan_of-plan-requires
plan_of-plan-requires c = omega (arith, ap length c.requires.3, row_size c.args.bw c.args.words.now, positions_le c.args.bw c.requires.0)

pub returns-in-Err-clause-told_value : goal.returns-in-Err-clause-told_value
returns-in-Err-clause-told_value c =
    let answers : c.plan_of-plan.result.outcome ≡ plan_outcome c.args.row.now =
    plan_answers _ _ c.plan_of-plan.ensures.value in
    not_told c.args.bw c.args.words.now c.requires.0
    (λ t. pass_not_refuse (answers ∙ ap plan_outcome c.requires.3 ∙ t.laid) c.in-Err.is)

pub overflow_add-n : goal.overflow_add-n
overflow_add-n c =
    let says : PlanSays c.args.bw c.args.words.now c.requires.0 c.args.row.now c.plan_of-plan.result =
    plan_says c.args.bw c.args.words.now c.requires.0 c.args.row.now c.plan_of-plan.result c.requires.3 c.plan_of-plan.ensures.value c.in_default.is in
    let p = says in omega (arith, p.most_1, p.most_2)

pub overflow_add-n-2 : goal.overflow_add-n-2
overflow_add-n-2 c =
    let says : PlanSays c.args.bw c.args.words.now c.requires.0 c.args.row.now c.plan_of-plan.result =
    plan_says c.args.bw c.args.words.now c.requires.0 c.args.row.now c.plan_of-plan.result c.requires.3 c.plan_of-plan.ensures.value c.in_default.is in
    let p = says in omega (arith, p.most_1, p.most_2)

pub returns-then-words-n-clause-told_value : goal.returns-then-words-n-clause-told_value
returns-then-words-n-clause-told_value c =
    let says : PlanSays c.args.bw c.args.words.now c.requires.0 c.args.row.now c.plan_of-plan.result =
    plan_says c.args.bw c.args.words.now c.requires.0 c.args.row.now c.plan_of-plan.result c.requires.3 c.plan_of-plan.ensures.value c.in_default.is in
    let p = says in
    not_told c.args.bw c.args.words.now c.requires.0 (λ t. c.if-words-n.true (t.counted ∙ omega (arith, p.says_1, p.says_2)))

pub are_formatted-requires : goal.are_formatted-requires
are_formatted-requires c =
    let says : PlanSays c.args.bw c.args.words.now c.requires.0 c.args.row.now c.plan_of-plan.result =
    plan_says c.args.bw c.args.words.now c.requires.0 c.args.row.now c.plan_of-plan.result c.requires.3 c.plan_of-plan.ensures.value c.in_default.is in
    let p = says in
    (c.requires.0, c.requires.3, p.says_formats, p.says_1, p.says_2, c.if-words-n.false)

pub returns-then-not-are_formatted-clause-told_value : goal.returns-then-not-are_formatted-clause-told_value
returns-then-not-are_formatted-clause-told_value c =
    not_told c.args.bw c.args.words.now c.requires.0 (λ t. c.are_formatted.ensures.no c.if-not-are_formatted.true t.users)

pub any_again-requires : goal.any_again-requires
any_again-requires c =
    let says : PlanSays c.args.bw c.args.words.now c.requires.0 c.args.row.now c.plan_of-plan.result =
    plan_says c.args.bw c.args.words.now c.requires.0 c.args.row.now c.plan_of-plan.result c.requires.3 c.plan_of-plan.ensures.value c.in_default.is in
    let p = says in (omega (arith, p.most_1, p.most_2), omega arith)

pub returns-then-any_again-clause-told_value : goal.returns-then-any_again-clause-told_value
returns-then-any_again-clause-told_value c =
    let says : PlanSays c.args.bw c.args.words.now c.requires.0 c.args.row.now c.plan_of-plan.result =
    plan_says c.args.bw c.args.words.now c.requires.0 c.args.row.now c.plan_of-plan.result c.requires.3 c.plan_of-plan.ensures.value c.in_default.is in
    let p = says in
    not_told c.args.bw c.args.words.now c.requires.0
    (λ t. true≢false (sym c.if-any_again.true ∙ c.any_again.ensures ∙ rw (p.says_1, p.says_2) t.once))

pub returns-clause-told_value : goal.returns-clause-told_value
returns-clause-told_value c =
    let answers : c.plan_of-plan.result.outcome ≡ plan_outcome c.args.row.now =
    plan_answers _ _ c.plan_of-plan.ensures.value in
    let says : PlanSays c.args.bw c.args.words.now c.requires.0 c.args.row.now c.plan_of-plan.result =
    plan_says c.args.bw c.args.words.now c.requires.0 c.args.row.now c.plan_of-plan.result c.requires.3 c.plan_of-plan.ensures.value c.in_default.is in
    let p = says in
    let n = p.says_1 in
    let m = p.says_2 in
    told_so c.args.bw c.args.words.now c.requires.0
    (record {
      counted = c.if-words-n.false ∙ rw (n, m);
      the_header = c.requires.2;
      checked = c.are_checked.ensures.yes c.if-not-are_checked.false;
      laid = ap plan_outcome (sym c.requires.3) ∙ sym answers ∙ c.in_default.is;
      users = c.are_formatted.ensures.yes c.if-not-are_formatted.false;
      once = sym (c.any_again.ensures ∙ rw (n, m)) ∙ c.if-any_again.false;
    })

pub returns-clause-told_parts : goal.returns-clause-told_parts
unfolding overflow_in
returns-clause-told_parts c =
    let l = lent_1 c.args.bw c.args.words.now c.args.row.now c.requires.0 c.requires.3 in
    let says : PlanSays c.args.bw c.args.words.now c.requires.0 c.args.row.now c.plan_of-plan.result =
    plan_says c.args.bw c.args.words.now c.requires.0 c.args.row.now c.plan_of-plan.result c.requires.3 c.plan_of-plan.ensures.value c.in_default.is in
    let begun : Begun c.args.bw c.args.words.now c.overflow_of-overflow.result c.first_part-first.result c.second_part-second.result =
    record {
      the_overflow = c.overflow_of-overflow.ensures;
      the_first = (
        c.first_part-first.ensures.upper_bound,
        first_on c.args.bw c.args.words.now c.args.row.now 1 l _ _ c.overflow_of-overflow.ensures
            c.first_part-first.ensures.value,
      );
      the_second = (c.second_part-second.ensures.upper_bound, second_on c.args.bw c.args.words.now c.args.row.now 1 l _ c.second_part-second.ensures.value);
    } in
    let p = says in (p.says_1, p.says_2, begun)
