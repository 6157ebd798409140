-- The answer of a chase, as the model's chase gives it, and the record that it leaves.
-- Main definitions: ended_at, after_chase.
use Rattle.std.specs.Prelude.{cond, eqb}
use Rattle.model.specs.declared.Party.{Party}
use Rattle.model.specs.Steps.Chase.{Chase, arrived, chasing}
use Rattle.addresses.specs.declared.Located.{Located}

-- The model's record of where a chase ended.
abbrev pub ended_at : Located → Chase
ended_at t = record { lev = t.lev; chain = t.chain.0 }

-- The party's record after a chase: arrived on its chain, or on to another.
abbrev pub after_chase : Chase → Party → Party
after_chase t p = cond (eqb t.chain p.chain) (arrived t p) (chasing t p)
