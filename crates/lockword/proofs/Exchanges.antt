-- Compare-exchanges of any word.
use Rattle.std.proofs.Common.{◌≡◌, ◌≢◌, ◌∙◌, ◌∷◌, eq-eqb, ne_eqb}
use Rattle.lockword.proofs.Words.{ℕ, eqb, List, ap, get_or, set, refl, sym, subst, dite, some, ℕ_discrete, get_elem?}
use Rattle.lockword.proofs.Words.{either, State, keeps, stepped, Allows, rest, set_again, LocalView, Half, Dir, slot_of}
use Rattle.lockword.proofs.Words.{Guarded, half_of, IsHalf, IsReached}
use lib.Seq.{set-get_or}
use Rattle.atomic_table.specs.Table.{Me, Act, carried_after, Valid}

module _ (R W : Type 0) where
  abbrev pub H : Type 0
  H = Half R W

  abbrev pub St : Type 0
  St = State H LocalView

  abbrev pub M : Type 0
  M = Me H LocalView

  -- a step that writes what was there
  pub unmoved : (s : St) (i id : ℕ) (v : LocalView) → IsReached s → get_elem? s.views id ≡ some v
      → IsReached record { words = set s.words i (get_or s.words i 0); homes = s.homes; views = set s.views id v }
  unmoved s i id v r at =
      subst (λ (z : List ℕ × List LocalView). IsReached record { words = z.0; homes = s.homes; views = z.1 })
      (λ c. (sym (set-get_or s.words i 0) c, sym (set_again s.views id v at) c)) r

  -- where it finds what it looks for, the seat has a view and an act that keep the rule; else nothing changes
  pub swaps : (slots id i old new : ℕ) (me : M) (T : M → Type 0)
      → ((s : St) → IsReached s → get_elem? s.views id ≡ some me.0 → get_or s.words i 0 ≡ old → (w : LocalView)
      × (a : Act H) × Valid s.homes me.1 a × IsReached (stepped s i new id me.1 w a) × T (w, carried_after me.1 a))
      → Allows IsReached slots id me i (λ n. either (eqb n old) new n)
      (λ n me'. (n ≡ old → T me') × (n ≢ old → me' ≡ me))
  swaps slots id i old new me T hit s r deep at small =
      let x : ℕ = get_or s.words i 0 in
      dite (ℕ_discrete x old)
      (λ e. let t = hit s r at e in (
        t.0,
        t.1,
        t.2,
        subst (λ b. IsReached (stepped s i (either b new x) id me.1 t.0 t.1)) (sym (eq-eqb x old e)) t.3,
        ((λ _. t.4), λ not. absurd (not e)),
      ))
      (λ ne. (
        me.0,
        keeps,
        tt,
        subst (λ b. IsReached (stepped s i (either b new x) id me.1 me.0 keeps))
            (sym (ne_eqb x old ne)) (unmoved s i id me.0 r at),
        ((λ e. absurd (ne e)), λ _. refl),
      ))

  -- what an exchange of a slot asks
  pub has_old : (cs : List (ℕ × H)) (k : ℕ) (y : H) (more : List (ℕ × H)) → cs ≡ (k, y) ∷ more
      → (old : H) × (cs ≡ (k, old) ∷ rest cs)
  has_old cs k y more e = (y, e ∙ ap (λ (l : List (ℕ × H)). (k, y) ∷ rest l) (sym e))

  -- what an exchange finds where the half of a direction is
  pub found_half : (d : Dir) (h : Guarded R W d) (cs more : List (ℕ × H)) (k : ℕ) (found : H)
      → cs ≡ (slot_of d, half_of d h) ∷ more → cs ≡ (k, found) ∷ rest cs → IsHalf d found
  found_half d h cs more k found e f = (h, ap (λ (l : List (ℕ × H)). (get_or l 0 (k, found)).1) (sym f ∙ e))
