-- The scene behind what a line says.
use Rattle.std.proofs.Common.{◌≡◌, ℕ, Bool, false, true, List, [], ◌∷◌, ◌++◌, Option, Some, None, refl, sym, ap, ◌∙◌}
use Rattle.std.specs.Prelude.{◌&&◌}
use Rattle.std.proofs.lemmas.List.{map-append}
use Rattle.live_text.specs.Rules.{LiveFront}
use Rattle.live_text.specs.Scene.{LiveScene, scene_of}
use Rattle.live_text.specs.Statement.{with_statement}
use Rattle.live_text.proofs.Judged.{adds_told}
use Rattle.notify_text.specs.Rules.{NotifyFront, has_no_signal}
use Rattle.notify_text.specs.Statement as told
use Rattle.notify_text.specs.declared.notify_trace.Signal.{Signal}
use Rattle.ta_isa.specs.declared.boot.App.{App}
use Rattle.ta_isa.specs.declared.boot.Boot.{Boot}
use Rattle.trace_text.specs.Limits.{SceneState, has_no_item, inside_after}
use Rattle.trace_text.specs.Statement.{scene_after}
use Rattle.trace_text.specs.declared.item.Item.{Item}
use Rattle.trace_text.specs.declared.statement.Statement.{Statement}
use Rattle.trace_text.specs.declared.statement.Statement.TheVariants as says
use Rattle.trace_text.specs.declared.trace.Fill.{Fill}
use Rattle.trace_text.proofs.Inside.{inside_push}

-- the lines, by what they give
abbrev front_of : Option Boot → List Fill → List Item → Bool → List Signal → NotifyFront
front_of boot fills items keyed signals = record { trace = record { boot = boot; fills = fills; items = items; keyed = keyed }; signals = signals }

behind_app : (boot : Option Boot) (fills : List Fill) (items : List Item) (keyed : Bool) (signals : List Signal) (app : App)
    → scene_after (told.scene_of (front_of boot fills items keyed signals)) (says.App app) ≡ told.scene_of (told.with_statement (front_of boot fills items keyed signals) (says.App app))
behind_app None fills items keyed signals app = refl
behind_app (Some boot) fills items keyed signals app =
    ap (λ (apps : List (List ℕ)). record (told.scene_of (front_of (Some boot) fills items keyed signals)) { apps = apps }) (sym (map-append (λ (a : App). a.uuid) boot.apps (app ∷ [])))

behind_key : (boot : Option Boot) (fills : List Fill) (items : List Item) (keyed : Bool) (signals : List Signal) (key : List ℕ)
    → scene_after (told.scene_of (front_of boot fills items keyed signals)) (says.Key key) ≡ told.scene_of (told.with_statement (front_of boot fills items keyed signals) (says.Key key))
behind_key None fills items keyed signals key = refl
behind_key (Some boot) fills items keyed signals key = refl

some_item : (items : List Item) (i : Item) (quiet : Bool) → false ≡ (has_no_item (items ++ i ∷ []) && quiet)
some_item [] i quiet = refl
some_item (j ∷ items) i quiet = refl

behind_item : (front : NotifyFront) (i : Item) → scene_after (told.scene_of front) (says.Item i) ≡ told.scene_of (told.with_statement front (says.Item i))
behind_item front i =
    ap (λ (inside : List Bool). record (told.scene_of front) { is_open = false; inside = inside }) (sym (inside_push front.trace.items i))
    ∙ ap (λ (o : Bool). record (told.scene_of front) { is_open = o; inside = inside_after (front.trace.items ++ i ∷ []) }) (some_item front.trace.items i (has_no_signal front.signals))

some_signal : (signals : List Signal) (signal : Signal) → false ≡ has_no_signal (signals ++ signal ∷ [])
some_signal [] signal = refl
some_signal (other ∷ signals) signal = refl

closes : (empty quiet : Bool) → false ≡ quiet → false ≡ (empty && quiet)
closes true quiet is = is
closes false quiet is = refl

behind_signal : (front : NotifyFront) (value : ℕ) → scene_after (told.scene_of front) (says.Signal value) ≡ told.scene_of (told.with_statement front (says.Signal value))
behind_signal front value =
    ap (λ (o : Bool). record (told.scene_of front) { is_open = o }) (closes (has_no_item front.trace.items) _ (some_signal front.signals _))

behind : (front : NotifyFront) (said : Statement) → scene_after (told.scene_of front) said ≡ told.scene_of (told.with_statement front said)
behind front says.Blank = refl
behind front (says.Boot size) = refl
behind front (says.App app) = behind_app front.trace.boot front.trace.fills front.trace.items front.trace.keyed front.signals app
behind front (says.Fill fill) = refl
behind front (says.Key key) = behind_key front.trace.boot front.trace.fills front.trace.items front.trace.keyed front.signals key
behind front (says.Item i) = behind_item front i
behind front (says.Signal value) = behind_signal front value

pub scene_behind : (scene : LiveScene) (lines : SceneState) (front : LiveFront) (said : Statement) → scene ≡ scene_of front → lines ≡ scene_after scene.lines said → record scene { lines = lines } ≡ scene_of (with_statement front said)
scene_behind scene lines front said is now =
    ap (λ (l : SceneState). record scene { lines = l }) now
    ∙ ap (λ (s : LiveScene). record s { lines = scene_after s.lines said }) is
    ∙ ap (λ (l : SceneState). record (scene_of front) { lines = l }) (behind front.told said)
    ∙ sym (ap scene_of (adds_told front said))
