-- The number of a User field says its 22 bits and the resource that owns it, in a row that a plan signals.
use mathlib.Core.Path.{◌≡◌, ap}
use mathlib.Core.List.{List}
use Prim.Native.Nat.{ℕ, ◌≤◌, ◌<◌}
use native.Mathlib.Omega.{arith}
use borrow.Author.Tests.{lt-ltb}
use lib.ListN.{length, get_or, replicate}
use Rattle.answer.specs.Lists.{filled, at}
use Rattle.answer.proofs.Lists.{get_d_filled}
use Rattle.bits.specs.Bits.{field}
use Rattle.resource.specs.Names.{number_of}
use Rattle.kinds.specs.Signals.{Signals}
use Rattle.plan.specs.Worked.{the_plan}
use Rattle.records.specs.declared.Record.{Record}
use Rattle.records.specs.Records.{records_from, records_of, blank}
use Rattle.records.specs.Owns.{fields_before}
use Rattle.records.specs.Worked.{the_owner}
use Rattle.records.proofs.Listing.{records_most}
use Rattle.records.proofs.Worked.{worked}
use Rattle.channel.specs.Layout.{user_at}
use Rattle.user_codes.specs.Engine.{record_code, resource_codes, user_code, code_in, owned_code}
use Rattle.user_codes.proofs.Codes.{nth_index, nth_segment}

module _ (r : List ℕ) (l : length r ≤ 16) where
  -- the codes of all resources of its plan
  abbrev pub plan_codes : List ℕ
  plan_codes = filled (resource_codes r) (length (records_from (the_plan r) (at r) (length r))) (replicate 144 0)

  pub plan_code : (i : ℕ) → i < length (records_of (the_plan r) r) → code_in plan_codes i ≡ record_code (get_or (records_of (the_plan r) r) i blank)
  unfolding code_in resource_codes
  plan_code i h =
      rw (lt-ltb i 144 (omega (arith, records_most (the_plan r) (at r) (length r))))
      (get_d_filled (resource_codes r) (length (records_from (the_plan r) (at r) (length r))) (replicate {A = ℕ} 144 0) i 0 h)

  -- field j of channel c, which a position of the row gives
  module _ (s : Signals (the_plan r) (at r) 0 (length r)) (c j : ℕ) (h : j < fields_before c (at r) (length r)) where
    abbrev pub owner_record : Record
    owner_record = get_or (records_of (the_plan r) r) (the_owner r c j) blank

    owner_below : the_owner r c j < length (records_of (the_plan r) r)
    owner_below = (worked (the_plan r) r s c j h).listed

    pub owned_code_lem : (bw : ℕ) (t : List ℕ) → owned_code bw t r plan_codes c j ≡ user_code (field t (user_at bw j) 22) (record_code owner_record)
    unfolding owned_code
    owned_code_lem bw t = ap (user_code (field t (user_at bw j) 22)) (plan_code (the_owner r c j) owner_below)

    pub owner_index : number_of owner_record.resource ≤ 255
    owner_index = nth_index r (the_owner r c j) owner_below

    pub owner_segment : owner_record.segment ≤ 255
    owner_segment = nth_segment r (the_owner r c j) owner_below l
