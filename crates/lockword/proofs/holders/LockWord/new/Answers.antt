use Rattle.std.proofs.Common.{rules, ◌≡◌, ◌∷◌, []}
use Rattle.lockword.specs.declared.shared_rule.Half.TheVariants as half
use Rattle.lockword.proofs.OpeningKeepsInvariant.{begins}
use Rattle.lockword.proofs.holders.LockWord.new.Goals as goal

pub new-requires : goal.new-requires
new-requires g c = let e : c.push-2.new.self.items ≡ half.Read c.args.read ∷ (half.Write c.args.write ∷ []) =
    search rules in rw e (begins _ _ _ _)
