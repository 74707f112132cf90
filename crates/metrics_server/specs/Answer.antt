-- What a request is answered with.
use Rattle.std.specs.Prelude.{◌≡◌, ◌≢◌, ◌⊎◌, ℕ, List, [], ◌∷◌, ◌++◌, codes}
use Rattle.http.specs.declared.request.Request.{Request}
use Rattle.http.specs.Request.{head_of}
use Rattle.http_server.specs.declared.response.Response.{Response}
use Rattle.http_server.specs.Response.{IsResponse}
use Rattle.http_uri.specs.Uri.{uri_path}
use Rattle.relay_metrics.specs.declared.figures.Figures.{Figures}
use Rattle.metrics_server.specs.declared.place.Place.{Place}
use Rattle.metrics_server.specs.declared.place.Place.TheVariants as place
use Rattle.metrics_server.specs.declared.service.MetricsService.{MetricsService}
use Rattle.relay_metrics.specs.Figures.{health_of}
use Rattle.relay_metrics.specs.declared.figures.Health.{Health}
use Rattle.relay_metrics.specs.declared.figures.Health.TheVariants.{NoTarget, NotListening, Well}
use Rattle.relay_metrics.specs.Text.{metrics_text}

-- the figures that a service holds: those that were read for its last answer with figures
abbrev pub figures_of : {M : Type 0} → MetricsService M → Figures
figures_of service = service.figures

-- who has them
abbrev pub metered_of_service : {M : Type 0} → MetricsService M → M
metered_of_service service = service.metered

-- the path of a request, without what it asks there
abbrev pub path_of : Request (List ℕ) → List ℕ
path_of request = uri_path (head_of request).uri

-- the path names the place
abbrev pub IsPlaceOf : List ℕ → Place → Type 0
IsPlaceOf path place.Metrics = path ≡ codes "/metrics"
IsPlaceOf path place.Health = path ≡ codes "/healthz"
IsPlaceOf path place.Elsewhere = (path ≢ codes "/metrics") × (path ≢ codes "/healthz")

-- a method that asks for what stands at a path, with or without its body
abbrev pub IsReading : List ℕ → Type 0
IsReading method = (method ≡ codes "GET") ⊎ (method ≡ codes "HEAD")

-- the one field that says of which type a body is
abbrev pub typed : List ℕ → List (List ℕ × List ℕ)
typed type = (codes "content-type", type) ∷ []

-- the type of the text of figures, and of any other text
abbrev pub figures_type : List ℕ
figures_type = codes "text/plain; version=0.0.4; charset=utf-8"

abbrev pub plain_type : List ℕ
plain_type = codes "text/plain; charset=utf-8"

-- what says that all is well
abbrev pub well : List ℕ
well = codes "ok" ++ 10 ∷ []

-- what says that a rule which should listen doesn't
abbrev pub unwell : List ℕ
unwell = codes "not listening" ++ 10 ∷ []

-- what says that of a rule no target is up
abbrev pub untargeted : List ℕ
untargeted = codes "no target up" ++ 10 ∷ []

-- the status and the text of a relay that is well, or that isn't
abbrev pub health_status : Health → ℕ
health_status Well = 200
health_status NotListening = 503
health_status NoTarget = 503

abbrev pub health_text : Health → List ℕ
health_text Well = well
health_text NotListening = unwell
health_text NoTarget = untargeted

-- the one field that says which methods a place has
abbrev pub allowed : List (List ℕ × List ℕ)
allowed = (codes "allow", codes "GET, HEAD") ∷ []

-- who reads a place is given what stands there, anybody else is told who may
pub record Gives (type content method : List ℕ) (response : Response) : Type 0 where
  pub read : IsReading method → IsResponse 200 (typed type) content response
  pub refused : ¬ (IsReading method) → IsResponse 405 allowed [] response

-- who reads whether all is well is told by the status, and in words; anybody else who may
pub record TellsHealth (health : Health) (method : List ℕ) (response : Response) : Type 0 where
  pub read : IsReading method →
      IsResponse (health_status health) (typed plain_type) (health_text health) response
  pub refused : ¬ (IsReading method) → IsResponse 405 allowed [] response

-- what a place answers, where these figures were read
abbrev pub IsAnswerAt : Place → Figures → List ℕ → Response → Type 0
IsAnswerAt place.Metrics read method response =
    Gives figures_type (metrics_text read) method response
IsAnswerAt place.Health read method response = TellsHealth (health_of read) method response
IsAnswerAt place.Elsewhere read method response = IsResponse 404 [] [] response

-- a request is answered by the place that its path names
pub record IsAnswer (request : Request (List ℕ)) (read : Figures) (response : Response)
    : Type 0 where
  pub place : Place
  pub named : IsPlaceOf (path_of request) place
  pub given : IsAnswerAt place read (head_of request).method response

-- so it is, or memory was refused
abbrev pub IsAnswerOrRefusal : Request (List ℕ) → Figures → Response → Type 0
IsAnswerOrRefusal request read response =
    IsAnswer request read response ⊎ IsResponse 500 [] [] response
