-- `candidate::push_pair` meets its contract.
use Rattle.std.proofs.Common.{ℕ, ◌+◌, ◌-◌, ◌*◌, ◌/◌, ◌%◌, ◌^◌, ◌≡◌, refl, ◌∙◌, ap, arith}
use Rattle.bits.specs.Bits.{put}
use Rattle.candidate.proofs.Joined.{pair_pushed}
use Rattle.candidate.proofs.push_pair.Goals as goal

pub returns : goal.returns
returns c =
    let e : c.args.x * 2 ^ 10 % 2 ^ 64 ≡ c.args.x * 2 ^ 10 = omega (arith, c.requires.4) in record {
      upper_bound = omega (arith, c.requires.4);
      ends = λ z b f.
          pair_pushed z c.args.d.now _ c.args.i c.args.ten c.args.x _ b f c.requires.0 (omega (arith, c.requires.1, b.built.as_long)) refl
          (c.put_whole.ensures
          ∙ ap (λ (y : ℕ). put c.args.d.now (8 * ((c.args.i + 61) / 8 - 8)) 64 ((c.args.ten + y) / 2 ^ (7 - (c.args.i + 61) % 8))) e);
    }
