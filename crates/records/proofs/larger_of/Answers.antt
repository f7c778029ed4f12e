-- `records::larger_of` meets its contract.
use Rattle.std.proofs.Common.{lt-ltb, le-ltb, arith, refl}
use Rattle.resource.specs.declared.Pairing.TheVariants.{P484And242, P996And484, P3x996, P2x996And484, P3x996And484}
use Rattle.resource.specs.Index.{resource_at, index_of}
use Rattle.records.specs.Records.{resource_column, larger}
use Rattle.records.proofs.Larger.{joined_is}
use Rattle.records.proofs.larger_of.Goals as goal

pub returns-in-0 : goal.returns-in-0
unfolding larger resource_column resource_at index_of
returns-in-0 c = rw c.in-0.is

pub returns-in-1 : goal.returns-in-1
unfolding larger resource_column resource_at index_of
returns-in-1 c = rw c.in-1.is

pub returns-in-2 : goal.returns-in-2
unfolding larger resource_column resource_at index_of
returns-in-2 c = rw c.in-2.is

pub returns-in-7 : goal.returns-in-7
unfolding larger resource_column resource_at index_of
returns-in-7 c = rw c.in-7.is

pub returns-in-3-to-6 : goal.returns-in-3-to-6
returns-in-3-to-6 c = joined_is c.args.kind (omega arith) (omega arith) (λ e. omega arith) _ _ P484And242 3
    (rw (lt-ltb c.args.kind 8 (omega arith)) (refl, refl)) (omega arith)

pub returns-in-8-to-11 : goal.returns-in-8-to-11
returns-in-8-to-11 c =
    joined_is c.args.kind (omega arith) (omega arith) (λ e. omega arith) _ _ P996And484 8
    (rw (le-ltb c.args.kind 8 (omega arith), lt-ltb c.args.kind 12 (omega arith)) (refl, refl)) (omega arith)

pub returns-in-12-to-15 : goal.returns-in-12-to-15
returns-in-12-to-15 c =
    joined_is c.args.kind (omega arith) (omega arith) (λ e. omega arith) _ _ P3x996 12
    (rw (le-ltb c.args.kind 8 (omega arith), le-ltb c.args.kind 12 (omega arith), lt-ltb c.args.kind 16 (omega arith)) (refl, refl)) (omega arith)

pub returns-in-16-to-23 : goal.returns-in-16-to-23
returns-in-16-to-23 c =
    joined_is c.args.kind (omega arith) (omega arith) (λ e. omega arith) _ _ P3x996And484 16
    (rw (le-ltb c.args.kind 8 (omega arith), le-ltb c.args.kind 12 (omega arith), le-ltb c.args.kind 16 (omega arith), lt-ltb c.args.kind 24 (omega arith))
    (refl, refl)) (omega arith)

pub returns-in_default : goal.returns-in_default
returns-in_default c =
    joined_is c.args.kind (omega arith) (omega arith) (λ e. omega arith) _ _ P2x996And484 24
    (rw (le-ltb c.args.kind 8 (omega arith), le-ltb c.args.kind 12 (omega arith), le-ltb c.args.kind 16 (omega arith), le-ltb c.args.kind 24 (omega arith))
    (refl, refl)) (omega arith)
