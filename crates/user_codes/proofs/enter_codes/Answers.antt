-- `user_codes::enter_codes` meets its contract.
use Rattle.std.proofs.Common.{◌≡◌, refl, ap, ◌∙◌, ℕ, ◌+◌, ◌≤◌, ◌<◌, arith, length}
use Rattle.answer.specs.Lists.{at}
use Rattle.plan.specs.Engine.{only_plan}
use Rattle.records.specs.Records.{list_at}
use Rattle.records.proofs.Listing.{next_length, here_is}
use Rattle.user_codes.specs.Engine.{listed_code}
use Rattle.user_codes.proofs.Codes.{room, enter}
use Rattle.user_codes.proofs.enter_codes.Goals as goal

pub overflow_add-codes : goal.overflow_add-codes
overflow_add-codes c =
    let here : c.listed_of-here.result ≡ length (list_at (only_plan (at c.args.row.now) c.args.p) (at c.args.row.now) c.args.p) =
    here_is (at c.args.row.now) c.args.p _ _ c.args.kind c.requires.row_len_bound.2 refl c.listed_of-here.ensures.0 in
    let fits : c.args.i + c.listed_of-here.result ≤ 144 =
    omega (arith, here, c.requires.i_value.0, room c.args.row.now c.args.p c.requires.row_len_bound.1 c.requires.row_len_bound.0) in
    omega (arith, fits)

pub offset_bounds-codes-i : goal.offset_bounds-codes-i
offset_bounds-codes-i c =
    let here : c.listed_of-here.result ≡ length (list_at (only_plan (at c.args.row.now) c.args.p) (at c.args.row.now) c.args.p) =
    here_is (at c.args.row.now) c.args.p _ _ c.args.kind c.requires.row_len_bound.2 refl c.listed_of-here.ensures.0 in
    let fits : c.args.i + c.listed_of-here.result ≤ 144 =
    omega (arith, here, c.requires.i_value.0, room c.args.row.now c.args.p c.requires.row_len_bound.1 c.requires.row_len_bound.0) in
    omega (arith, fits)

pub bounds-codes-i : goal.bounds-codes-i
bounds-codes-i c =
    let here : c.listed_of-here.result ≡ length (list_at (only_plan (at c.args.row.now) c.args.p) (at c.args.row.now) c.args.p) =
    here_is (at c.args.row.now) c.args.p _ _ c.args.kind c.requires.row_len_bound.2 refl c.listed_of-here.ensures.0 in
    let fits : c.args.i + c.listed_of-here.result ≤ 144 =
    omega (arith, here, c.requires.i_value.0, room c.args.row.now c.args.p c.requires.row_len_bound.1 c.requires.row_len_bound.0) in
    omega (arith, fits)

pub loop-k-preserved : goal.loop-k-preserved
loop-k-preserved c =
    let here : c.listed_of-here.result ≡ length (list_at (only_plan (at c.args.row.now) c.args.p) (at c.args.row.now) c.args.p) =
    here_is (at c.args.row.now) c.args.p _ _ c.args.kind c.requires.row_len_bound.2 refl c.listed_of-here.ensures.0 in
    let m : c.loop-k.k < length (list_at (only_plan (at c.args.row.now) c.args.p) (at c.args.row.now) c.args.p) = rw (← here) (omega arith) in
    enter c.args.row.now c.args.p c.args.i c.loop-k.k c.code_at.result c.loop-k.codes c.requires.row_len_bound.1 c.requires.row_len_bound.0
    c.requires.i_value.0 m
    (c.code_at.ensures ∙ ap (λ (x : ℕ). listed_code x (at c.args.row.now) c.args.p c.loop-k.k) c.requires.row_len_bound.2) c.loop-k.invariant

pub overflow_add-result : goal.overflow_add-result
overflow_add-result c =
    let here : c.listed_of-here.result ≡ length (list_at (only_plan (at c.args.row.now) c.args.p) (at c.args.row.now) c.args.p) =
    here_is (at c.args.row.now) c.args.p _ _ c.args.kind c.requires.row_len_bound.2 refl c.listed_of-here.ensures.0 in
    let fits : c.args.i + c.listed_of-here.result ≤ 144 =
    omega (arith, here, c.requires.i_value.0, room c.args.row.now c.args.p c.requires.row_len_bound.1 c.requires.row_len_bound.0) in
    omega (arith, fits)

pub returns : goal.returns
returns c =
    let here : c.listed_of-here.result ≡ length (list_at (only_plan (at c.args.row.now) c.args.p) (at c.args.row.now) c.args.p) =
    here_is (at c.args.row.now) c.args.p _ _ c.args.kind c.requires.row_len_bound.2 refl c.listed_of-here.ensures.0 in
    let e : c.loop-k.k ≡ c.listed_of-here.result = omega arith in record {
      value = omega (arith, here, c.requires.i_value.0, next_length (only_plan (at c.args.row.now)) (at c.args.row.now) c.args.p);
      codes_after = rw (← e) c.loop-k.invariant;
    }
