use Rattle.std.proofs.Common.{◌≡◌, ◌<◌, ◌/◌, arith, rules, length, subst, refl, true}
use Rattle.deadline_core.specs.Moments.{ComesBy}
use Rattle.deadline_core.specs.Tournament.{moment_at, HasLeaves}
use Rattle.deadline_core.proofs.TournamentLemmas.{some_leaf, halves, is_leaf, none_under, join_halves}
use Rattle.deadline_core.proofs.tournament.+due_leaf.Goals as goal

pub offset_bounds-tree-node : goal.offset_bounds-tree-node
offset_bounds-tree-node t c =
    let under = some_leaf c.args.room c.args.node c.args.first c.args.width c.requires.leaves in
    let within : c.args.node < length c.args.tree.now = omega (arith, under.1, c.requires.tournament.whole) in
    search rules

pub bounds-tree-node : goal.bounds-tree-node
bounds-tree-node t c =
    let under = some_leaf c.args.room c.args.node c.args.first c.args.width c.requires.leaves in
    omega (arith, under.1, c.requires.tournament.whole)

pub returns-then-first-width : goal.returns-then-first-width
returns-then-first-width t c = λ leaf from to after. absurd (omega arith)

pub returns-then-not-is_due : goal.returns-then-not-is_due
returns-then-not-is_due t c = λ leaf above below after. none_under c.args.room c.args.tree.now c.args.node c.args.first
    c.args.width c.args.now leaf c.requires.tournament c.requires.leaves
    (λ come. let due = c.is_due.ensures.1 come in let idle = c.if-not-is_due.true in cc) above below

pub returns-then-width-eq1 : goal.returns-then-width-eq1
returns-then-width-eq1 t c =
    let one : HasLeaves c.args.room c.args.node c.args.first 1 =
    subst (λ n. HasLeaves c.args.room c.args.node c.args.first n) c.if-width-eq1.true c.requires.leaves in
    let due : c.is_due.result ≡ true = search (rules, c.if-not-is_due.false) in (
      omega arith,
      omega (arith, c.if-width-eq1.true),
      omega (arith, c.if-first-width.false, c.if-width-eq1.true),
      subst (λ n. ComesBy (moment_at c.args.tree.now n) c.args.now) (is_leaf c.args.room c.args.node c.args.first one)
          (c.is_due.ensures.0 due),
      λ leaf above after below. absurd (omega arith),
    )

pub due_leaf-requires : goal.due_leaf-requires
due_leaf-requires t c =
    let some = some_leaf c.args.room c.args.node c.args.first c.args.width c.requires.leaves in (
      omega (arith, some.0, c.decreases),
      (
        c.requires.tournament,
        (halves c.args.room c.args.node c.args.first c.args.width (c.args.width / 2) c.requires.leaves
            c.if-width-eq1.false refl).0,
      ),
    )

pub due_leaf-requires-in-None : goal.due_leaf-requires-in-None
due_leaf-requires-in-None t c =
    let some = some_leaf c.args.room c.args.node c.args.first c.args.width c.requires.leaves in (
      omega (arith, some.0, c.decreases),
      (
        c.requires.tournament,
        (halves c.args.room c.args.node c.args.first c.args.width (c.args.width / 2) c.requires.leaves
            c.if-width-eq1.false refl).1,
      ),
    )

pub returns-in-None : goal.returns-in-None
returns-in-None t c = join_halves c.args.room c.args.tree.now c.args.now c.args.from c.args.node c.args.first c.args.width
    (c.args.width / 2) c.due_leaf-in-None.result c.requires.leaves c.if-width-eq1.false refl c.in-None.ensures
    c.due_leaf-in-None.ensures
