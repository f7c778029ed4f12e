-- `records::lead_of` meets its contract: each arm's keys have the place that it says for their lowest, and what is left has its first.
use Rattle.std.proofs.Common.{◌≡◌, Bool, List, [], ◌∷◌, ℕ, ◌<◌, arith, T, eqb, eqb→eq}
use types.Run.{OneOf}
use Rattle.answer.specs.Least.{least}
use Rattle.resource.proofs.Test.{at_each, each_key, Missed, key_or, no_key, every_below}
use Rattle.kinds.specs.Kinds.{kinds, kind_at, span, mask, takes}
use Rattle.records.specs.Records.{lead}
use Rattle.records.proofs.lead_of.Goals as goal

leads : ℕ → ℕ → Bool
leads r c = eqb r (lead c)

known : (r : ℕ) (ks : List ℕ) (c : ℕ) → T (at_each (leads r) ks) → OneOf ks c → r ≡ lead c
unfolding leads
known r ks c t h = eqb→eq r (lead c) (each_key (leads r) ks c t h)

arms : List (List ℕ)
arms = (30 ∷ []) ∷ (32 ∷ 34 ∷ []) ∷ (12 ∷ 31 ∷ 33 ∷ 35 ∷ []) ∷ (8 ∷ 16 ∷ 24 ∷ []) ∷ (3 ∷ []) ∷ []

left : (c : ℕ) → c < 36 → Missed arms c → 0 ≡ lead c
unfolding leads arms lead least span mask takes kind_at kinds
left c h m = eqb→eq 0 (lead c) (no_key (leads 0) arms c (every_below (key_or (leads 0) arms) 36 tt c h) m)

pub returns-in-3 : goal.returns-in-3
unfolding leads lead least span mask takes kind_at kinds
returns-in-3 c = (known 1 (3 ∷ []) _ tt c.in-3.is, omega arith)

pub returns-in-8 : goal.returns-in-8
unfolding leads lead least span mask takes kind_at kinds
returns-in-8 c = (known 2 (8 ∷ 16 ∷ 24 ∷ []) _ tt c.in-8.is, omega arith)

pub returns-in-12 : goal.returns-in-12
unfolding leads lead least span mask takes kind_at kinds
returns-in-12 c = (known 4 (12 ∷ 31 ∷ 33 ∷ 35 ∷ []) _ tt c.in-12.is, omega arith)

pub returns-in-32 : goal.returns-in-32
unfolding leads lead least span mask takes kind_at kinds
returns-in-32 c = (known 4 (32 ∷ 34 ∷ []) _ tt c.in-32.is, omega arith)

pub returns-in-30 : goal.returns-in-30
unfolding leads lead least span mask takes kind_at kinds
returns-in-30 c = (known 6 (30 ∷ []) _ tt c.in-30.is, omega arith)

pub returns-in_default : goal.returns-in_default
unfolding arms
returns-in_default c = (left _ c.requires c.in_default.in_default-own.rest, omega arith)
