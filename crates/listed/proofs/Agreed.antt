-- The subcarriers that the program finds for the resources of an accepted frame are 01's.
use mathlib.Core.Path.{◌≡◌, sym, subst}
use mathlib.Core.List.{List}
use Prim.Native.Nat.{ℕ, ◌<◌}
use native.Mathlib.Omega.{arith}
use lib.ListN.{length, get_or}
use Rattle.answer.specs.Lists.{at}
use Rattle.std.specs.Prelude.{Ok}
use Rattle.kinds.specs.Signals.{Signals}
use Rattle.plan.specs.Engine.{only_plan}
use Rattle.records.specs.Records.{records_from, blank}
use Rattle.records.proofs.Sizes.{AgreesRecord, record_agrees}
use Rattle.channel.specs.Layout.{positions, row}
use Rattle.channel.proofs.Laws.{row_length}
use Rattle.halves.specs.Table.{outcome11}
use Rattle.both_halves.proofs.Accepted.{known_code, accepted_signals}
use Rattle.listed.specs.Listing.{resources}

pub agreed : (bw : ℕ) (a b : List ℕ) → outcome11 bw a b ≡ Ok tt → (i : ℕ) → i < length (resources (row bw a b))
    → AgreesRecord (length (row bw a b)) (get_or (resources (row bw a b)) i blank)
unfolding positions
agreed bw a b e =
    let r = row bw a b in
    let o = only_plan (at r) in
    subst
    (λ (n : ℕ). Signals o (at r) 0 n → (i : ℕ) → i < length (records_from o (at r) n) → AgreesRecord n (get_or (records_from o (at r) n) i blank))
    (sym (row_length bw a b))
    (record_agrees o (at r) bw (omega (arith, known_code bw a b e)))
    (accepted_signals bw a b e)
