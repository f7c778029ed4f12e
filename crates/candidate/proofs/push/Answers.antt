-- `candidate::push` meets its contract.
use Rattle.std.proofs.Common.{ℕ, ◌*◌, ◌/◌, refl, ◌∙◌, ap, arith}
use Rattle.bits.specs.Bits.{put}
use Rattle.candidate.proofs.Joined.{joined_word, held_less, ten_less, pushed}
use Rattle.candidate.proofs.push.Goals as goal

pub overflow_add-ten : goal.overflow_add-ten
overflow_add-ten c =
    let e = joined_word c.args.i _ c.args.x c.args.w c.requires.1 (held_less c.args.i c.args.ten c.requires.5) c.requires.6 in
    omega (arith, e.0, e.1)

pub returns : goal.returns
returns c =
    let e = (joined_word c.args.i _ c.args.x c.args.w c.requires.1 (held_less c.args.i c.args.ten c.requires.5) c.requires.6).0 in record {
      upper_bound = ten_less c.args.w c.args.x (omega (arith, c.requires.0)) c.requires.6;
      ends = λ z b f.
          pushed z c.args.d.now _ c.args.i c.args.ten c.args.x c.args.w _ b f c.requires.2 (omega (arith, c.requires.0)) c.requires.1
          (omega (arith, c.requires.3, b.built.as_long)) refl
          (c.put_eight.ensures ∙ ap (λ (y : ℕ). put c.args.d.now (8 * (c.args.i / 8)) 64 y) e);
    }
