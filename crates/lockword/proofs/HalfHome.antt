-- A half that was at home is the same where direction, half and operations are.
use Rattle.std.proofs.Common.{◌≡◌}
use Rattle.lockword.proofs.Words.{List, subst, Dir, Op, Half}
use Rattle.lockword.specs.Home.{WasHome}

pub same_home : {R W : Type 0} (d e : Dir) (x y : Half R W) (did now : List Op) → d ≡ e → x ≡ y → did ≡ now
    → WasHome R W d x did → WasHome R W e y now
same_home {R = R} {W = W} d e x y did now same_way same_half same_did home =
    subst (λ (way : Dir). WasHome R W way y now) same_way
    (subst (λ (z : Half R W). WasHome R W d z now) same_half
    (subst (λ (ops : List Op). WasHome R W d x ops) same_did home))
