-- What seats have heard: each step keeps it, or goes on from it.
use Rattle.std.proofs.Common.{◌≡◌, ◌∙◌, ◌⊎◌, inl, inr, ⊎_elim, [], ◌∷◌, ◌++◌, append-nil, append_assoc}
use Rattle.lockword.proofs.Words.{ℕ, zero, suc, List, set, refl, sym, ap, subst, some, get_elem?, Event, LocalView}
use Rattle.lockword.proofs.Words.{newcomer}
use mathlib.Core.List.{cons-ne-nil, head-eq_of_cons-eq, tail-eq_of_cons-eq}
use mathlib.Core.Option.{some-injective, some-ne-none}
use Rattle.atomic_table.proofs.Lists.{at_set, at_snoc}
use Rattle.lockword.specs.History.{GoesOn, IsHeard}

-- a list goes on from itself
pub stays : (h : List Event) → GoesOn h h
stays h = record { more = []; whole = sym (append-nil h) }

-- what goes on from a list, goes on from what that goes on from
pub goes_on_on : (a b c : List Event) → GoesOn a b → GoesOn b c → GoesOn a c
goes_on_on a b c g h =
    record {
      more = g.more ++ h.more;
      whole = h.whole ∙ ap (λ (xs : List Event). xs ++ h.more) g.whole ∙ append_assoc a g.more h.more;
    }

-- one event more
pub goes_further : (early h : List Event) (e : Event) → GoesOn early h → GoesOn early (h ++ e ∷ [])
goes_further early h e g = goes_on_on early h (h ++ e ∷ []) g record { more = e ∷ []; whole = refl }

-- one seat has another view, which has heard no more than the whole
pub heard_set : (h : List Event) (views : List LocalView) (id : ℕ) (w : LocalView) → IsHeard h views
    → GoesOn w.heard h → IsHeard h (set views id w)
heard_set h views id w all own =
    record {
      each = λ seat x at. ⊎_elim (λ here. subst (λ (y : LocalView). GoesOn y.heard h) here.1 own)
          (λ other. all.each seat x other.1) (at_set views id seat w x at);
    }

-- a step that is no operation, of a seat that hears nothing
pub heard_same : (h : List Event) (views : List LocalView) (id : ℕ) (v w : LocalView) → IsHeard h views
    → get_elem? views id ≡ some v → w.heard ≡ v.heard → IsHeard h (set views id w)
heard_same h views id v w all at same =
    heard_set h views id w all (subst (λ (xs : List Event). GoesOn xs h) (sym same) (all.each id v at))

-- an operation more, of any seat
heard_on : (h : List Event) (views : List LocalView) (e : Event) → IsHeard h views → IsHeard (h ++ e ∷ []) views
heard_on h views e all = record { each = λ seat x at. goes_further x.heard h e (all.each seat x at) }

-- a step that is an operation
pub heard_more : (h : List Event) (views : List LocalView) (id : ℕ) (v w : LocalView) (e : Event) → IsHeard h views
    → get_elem? views id ≡ some v → w.heard ≡ v.heard → IsHeard (h ++ e ∷ []) (set views id w)
heard_more h views id v w e all at same = heard_same (h ++ e ∷ []) views id v w (heard_on h views e all) at same

-- a new seat, which has heard what another has
pub split_heard : (h : List Event) (views : List LocalView) (w : LocalView) → IsHeard h views → GoesOn w.heard h
    → IsHeard h (views ++ w ∷ [])
split_heard h views w all own =
    record {
      each = λ seat x at. ⊎_elim (λ here. all.each seat x here)
          (λ new. subst (λ (y : LocalView). GoesOn y.heard h) new own) (at_snoc views w x seat at);
    }

saw_first : (i : ℕ) (v : LocalView) → get_elem? (newcomer ∷ []) i ≡ some v → newcomer ≡ v
saw_first zero v at = some-injective newcomer v at
saw_first (suc i) v at = absurd (some-ne-none v (sym at))

-- the first seat has heard nothing
pub first_heard : IsHeard [] (newcomer ∷ [])
first_heard =
    record { each = λ seat x at. subst (λ (y : LocalView). GoesOn y.heard []) (saw_first seat x at) (stays []) }

-- ---- Two seats

-- the same after one event more at the front
after_one : (e : Event) (a b : List Event) → GoesOn a b → GoesOn (e ∷ a) (e ∷ b)
after_one e a b g = record { more = g.more; whole = ap (λ (xs : List Event). e ∷ xs) g.whole }

-- of two beginnings of one list one is a beginning of the other
pub comparable : (a b h : List Event) → GoesOn a h → GoesOn b h → GoesOn a b ⊎ GoesOn b a
comparable [] b h g k = inl record { more = b; whole = refl }
comparable (x ∷ a) [] h g k = inr record { more = x ∷ a; whole = refl }
comparable (x ∷ a) (y ∷ b) [] g k = absurd (cons-ne-nil x (a ++ g.more) (sym g.whole))
comparable (x ∷ a) (y ∷ b) (e ∷ h) g k =
    let same : y ≡ x = head-eq_of_cons-eq (sym k.whole ∙ g.whole) in
    ⊎_elim (λ one. inl (subst (λ (z : Event). GoesOn (x ∷ a) (z ∷ b)) (sym same) (after_one x a b one)))
    (λ other. inr (subst (λ (z : Event). GoesOn (z ∷ b) (x ∷ a)) (sym same) (after_one x b a other)))
    (comparable a b h record { more = g.more; whole = tail-eq_of_cons-eq g.whole }
    record { more = k.more; whole = tail-eq_of_cons-eq k.whole })
