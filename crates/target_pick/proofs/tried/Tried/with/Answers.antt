use Rattle.std.proofs.Common.{ap, nat_eq, w64}
use Rattle.std.proofs.lemmas.Nat.Bits.{bit_at_set_other, bit_at_set_same}
use Rattle.target_pick.proofs.TriedLemmas.{fewer}
use Rattle.target_pick.proofs.tried.Tried.with.Goals as goal

pub returns-clause-own : goal.returns-clause-own
returns-clause-own c = ap (λ bit. nat_eq bit 1) (bit_at_set_same w64 c.args.self.bits c.args.place c.requires)

pub returns-clause-others : goal.returns-clause-others
returns-clause-others c = λ other apart.
    ap (λ bit. nat_eq bit 1) (bit_at_set_other w64 c.args.self.bits c.args.place c.requires other apart)

pub returns-clause-fewer : goal.returns-clause-fewer
returns-clause-fewer c = λ before.
    fewer c.args.self _ c.args.place before
    (ap (λ bit. nat_eq bit 1) (bit_at_set_same w64 c.args.self.bits c.args.place c.requires))
    (λ other apart. ap (λ bit. nat_eq bit 1) (bit_at_set_other w64 c.args.self.bits c.args.place c.requires other apart))
    c.requires
