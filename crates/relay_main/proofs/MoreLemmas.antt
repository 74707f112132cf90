-- Lists that have more at their end than before.
use Rattle.std.proofs.Common.{◌≡◌, ◌∙◌, ◌⊎◌, ◌++◌, ◌∷◌, [], List, All, Option, Some, Result, Ok, Err, ap, subst, sym, inl, inr, append-nil, append_assoc}
use Rattle.std.specs.Prelude.{IfSome, OnSome, if◌then◌else◌, is_ok}
use Rattle.std.specs.Result.{result_ok}
use Rattle.std.proofs.lemmas.List.Elements.{All-nil, All-push}
use Rattle.relay_main.specs.More.{HasMore, HasOneMore}

module _ {X : Type 0} (Is : X → Type 0) where
  -- a list has none more than itself
  pub has_none : (all : List X) → HasMore Is all all
  has_none all = ([], sym (append-nil all), All-nil Is)

  -- one more behind some
  pub has_another : (old mid new : List X) (one : X) → HasMore Is old mid → new ≡ mid ++ one ∷ [] → Is one
      → HasMore Is old new
  has_another old mid new one some is so = (
    some.0 ++ one ∷ [],
    is ∙ ap (λ (all : List X). all ++ one ∷ []) some.1 ∙ append_assoc old some.0 (one ∷ []),
    All-push Is some.0 one some.2 so,
  )

  -- none more behind some
  pub has_still : (old mid new : List X) → HasMore Is old mid → new ≡ mid → HasMore Is old new
  has_still old mid new some is = (some.0, is ∙ some.1, some.2)

  -- one more or none behind some
  pub has_one_or_none : (Also : X → Type 0) (old mid new : List X) → ((one : X) → Also one → Is one)
      → HasMore Is old mid → HasOneMore Also mid new → HasMore Is old new
  has_one_or_none Also old mid new so some step = elim step
      as (λ step. HasMore Is old new) [
        | inl same ↦ has_still old mid new some same
        | inr another ↦ has_another old mid new another.0 some another.1 (so another.0 another.2)
      ]

  -- one that was put behind them, where memory wasn't refused
  pub has_one_put : {T E : Type 0} (old new : List X) (found : Option X) (one : X) (put : Result T E) (came : Option T)
      → IfSome found Is → found ≡ Some one → new ≡ (if is_ok put then old ++ one ∷ [] else old) → came ≡ result_ok put
      → OnSome came (HasOneMore Is old new)
  has_one_put old new found one (Ok t) came so is items came_is =
      subst (λ came. OnSome came (HasOneMore Is old new)) (sym came_is)
      (inr (one, items, subst (λ found. IfSome found Is) is so))
  has_one_put old new found one (Err e) came so is items came_is =
      subst (λ came. OnSome came (HasOneMore Is old new)) (sym came_is) tt
