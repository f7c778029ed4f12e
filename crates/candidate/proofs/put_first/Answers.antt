-- `candidate::put_first` meets its contract.
use Rattle.std.proofs.Common.{ℕ, ◌-◌, ◌/◌, ◌^◌, ◌≡◌, sym, ap, arith}
use Rattle.channel.specs.Layout.{second_at}
use Rattle.candidate.proofs.Joined.{ten_less, built_first}
use Rattle.candidate.proofs.Parts.{first_width}
use Rattle.candidate.proofs.put_first.Goals as goal

pub put_eight-requires : goal.put_eight-requires
put_eight-requires c = (omega (arith, c.requires.0, first_width c.args.bw), omega (arith, c.requires.1))

pub returns : goal.returns
returns c =
    let w = first_width c.args.bw in
    let r : c.args.x / 2 ^ c.first_bits.result ≡ c.args.x / 2 ^ (second_at c.args.bw - 10) =
    ap (λ (k : ℕ). c.args.x / 2 ^ k) (omega (arith, c.first_bits.ensures.value, w)) in record {
      upper_bound = rw r (ten_less (second_at c.args.bw) c.args.x (omega (arith, w)) c.requires.2);
      ends = λ z n e.
          built_first z c.args.d.now _ (second_at c.args.bw) c.args.x _ (sym n) e (omega (arith, w)) (omega (arith, w)) (omega (arith, c.requires.0, n)) r
          c.put_eight.ensures;
    }
