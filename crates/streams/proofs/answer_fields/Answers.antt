-- `streams::answer_fields` meets its contract.
use Rattle.std.proofs.Common.{◌≡◌, sym, ◌∙◌, length}
use Rattle.streams.specs.Engine.{outcome_in}
use Rattle.streams.proofs.Fields.{judged, refused_fields, passed_named, passed_room, passed_fields}
use Rattle.streams.proofs.answer_fields.Goals as goal

pub returns-in-Err : goal.returns-in-Err
returns-in-Err c =
    let outcome : c.or_else-judged.result ≡ outcome_in c.args.codes.now c.args.words.now (length c.args.out.now) =
    judged c.args.codes.now c.args.words.now (length c.args.out.now) _ _ _ _ c.all_named.ensures
    c.refuse_if.ensures c.refuse_if-2.ensures c.or_else-judged.ensures in
    record {
      value = c.into.ensures ∙ (refused_fields c.args.codes.now c.args.words.now c.args.out.now _ (sym (outcome) ∙ c.in-Err.is)).0;
      out_after = (refused_fields c.args.codes.now c.args.words.now c.args.out.now _ (sym (outcome) ∙ c.in-Err.is)).1;
    }

pub put_streams-requires : goal.put_streams-requires
put_streams-requires c =
    let outcome : c.or_else-judged.result ≡ outcome_in c.args.codes.now c.args.words.now (length c.args.out.now) =
    judged c.args.codes.now c.args.words.now (length c.args.out.now) _ _ _ _ c.all_named.ensures
    c.refuse_if.ensures c.refuse_if-2.ensures c.or_else-judged.ensures in
    let e = sym (outcome) ∙ c.in_default.is in record {
      words_coded = (c.requires.0, c.requires.1, passed_named c.args.codes.now c.args.words.now c.args.out.now e);
      out_room = passed_room c.args.codes.now c.args.words.now c.args.out.now e;
    }

pub returns : goal.returns
returns c =
    let outcome : c.or_else-judged.result ≡ outcome_in c.args.codes.now c.args.words.now (length c.args.out.now) =
    judged c.args.codes.now c.args.words.now (length c.args.out.now) _ _ _ _ c.all_named.ensures
    c.refuse_if.ensures c.refuse_if-2.ensures c.or_else-judged.ensures in
    let e = sym (outcome) ∙ c.in_default.is in record {
      value = c.accepted.ensures ∙ (passed_fields c.args.codes.now c.args.words.now c.args.out.now e _ c.put_streams.ensures).0;
      out_after = (passed_fields c.args.codes.now c.args.words.now c.args.out.now e _ c.put_streams.ensures).1;
    }
