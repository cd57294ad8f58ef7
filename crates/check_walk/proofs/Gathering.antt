-- What a loop over the parts of a node gives.
use Rattle.std.proofs.Common.{◌≡◌, ℕ, suc, ◌+◌, ◌<◌, List, [], ◌∷◌, ◌++◌, length, drop, get_or, Err, refl, sym, ap, ◌∙◌, add-one, append_assoc, drop-cons}
use Rattle.std.proofs.Math.Path.{fun_ext}
use Rattle.c_rules.specs.Trials.{Trials, M, give, verdict, ◌>>=◌}
use Rattle.c_rules.specs.World.{World}
use Rattle.c_world.specs.Seen.{Gives}
use Rattle.c_world.specs.declared.end.CheckEnd.{CheckEnd}
use Rattle.c_world.specs.declared.end.CheckEnd.TheVariants.{Rule, NoMemory}
use Rattle.check_walk.specs.Walking.{gathered}

-- ---- the part that is left

pub left : {X : Type 0} (xs : List X) (i : ℕ) (x : X) → i < length xs → x ≡ get_or xs i x → drop i xs ≡ x ∷ drop (i + 1) xs
left xs i x h e = drop-cons xs i x h ∙ ap (λ y. y ∷ drop (suc i) xs) (sym e) ∙ ap (λ j. x ∷ drop j xs) (sym (add-one i))

-- ---- lists

-- what all give behind what there was is what the rest gives behind what there is
abbrev pub Gathers : {A : Type 0} (all rest : M (List A)) (start done : List A) (old now : World) → Type 0
Gathers all rest start done old now =
    (next : _ → World → Trials) → verdict (all (λ ys. next (start ++ ys)) old) ≡ verdict (rest (λ ys. next (done ++ ys)) now)

-- the first part, then the others
abbrev pub and_more : {A : Type 0} (first more : M (List A)) → M (List A)
and_more first more = ◌>>=◌ first (λ xs. ◌>>=◌ more (λ ys. give (xs ++ ys)))

append_none : {A : Type 0} (xs : List A) → xs ++ [] ≡ xs
append_none [] = refl
append_none (x ∷ xs) = ap (λ l. x ∷ l) (append_none xs)

behind : {A : Type 0} (first more : M (List A)) (done : List A) (next : List A → World → Trials) (w : World)
    → and_more first more (λ ys. next (done ++ ys)) w ≡ gathered done first (λ xs. more (λ ys. next (xs ++ ys))) w
behind first more done next w =
    ap (λ k. first k w) (fun_ext (λ xs. ap (λ k. more k) (fun_ext (λ ys. ap next (sym (append_assoc done xs ys))))))

pub gather_step : {A : Type 0} (all rest first more : M (List A)) (start done after : List A) (old now new : World)
    → rest ≡ and_more first more → Gathers all rest start done old now
    → ((next : List A → World → Trials) → verdict (gathered done first next now) ≡ verdict (next after new))
    → Gathers all more start after old new
gather_step all rest first more start done after old now new e h g next =
    h next ∙ ap (λ m. verdict (m (λ ys. next (done ++ ys)) now)) e ∙ ap verdict (behind first more done next now) ∙ g (λ xs. more (λ ys. next (xs ++ ys)))

pub gather_ends : {A B C : Type 0} (all rest first more : M (List A)) (start done : List A) (old now v w : World) (end : CheckEnd) (read : B → List A) (other : C → List A)
    → rest ≡ and_more first more → Gathers all rest start done old now
    → Gives (gathered done first) now (Err end) read v → Gives (gathered start all) old (Err end) other w
gather_ends all rest first more start done old now v w NoMemory read other e h g = tt
gather_ends all rest first more start done old now v w (Rule n a) read other e h g =
    λ next. h next ∙ ap (λ m. verdict (m (λ ys. next (done ++ ys)) now)) e ∙ ap verdict (behind first more done next now) ∙ g (λ xs. more (λ ys. next (xs ++ ys)))

pub gather_done : {A : Type 0} (all rest : M (List A)) (start done : List A) (old now : World) → rest ≡ give [] → Gathers all rest start done old now
    → (next : List A → World → Trials) → verdict (gathered start all next old) ≡ verdict (next done now)
gather_done all rest start done old now e h next =
    h next ∙ ap (λ m. verdict (m (λ ys. next (done ++ ys)) now)) e ∙ ap (λ d. verdict (next d now)) (append_none done)

-- a part that gives these
pub gather_more : {A : Type 0} (m : M (List A)) (done after more : List A) (w new : World) → after ≡ done ++ more
    → ((next : List A → World → Trials) → verdict (m next w) ≡ verdict (next more new))
    → (next : List A → World → Trials) → verdict (gathered done m next w) ≡ verdict (next after new)
gather_more m done after more w new e g next = rw e (g (λ xs. next (done ++ xs)))

pub gather_none : {A : Type 0} (m : M (List A)) (done after : List A) (w new : World) → after ≡ done
    → ((next : List A → World → Trials) → verdict (m next w) ≡ verdict (next [] new))
    → (next : List A → World → Trials) → verdict (gathered done m next w) ≡ verdict (next after new)
gather_none m done after w new e g = gather_more m done after [] w new (e ∙ sym (append_none done)) g

-- ---- what is handed on from part to part

abbrev pub Hands : {R : Type 0} (all rest : M R) (old now : World) → Type 0
Hands all rest old now = (next : _ → World → Trials) → verdict (all next old) ≡ verdict (rest next now)

pub hand_step : {R S : Type 0} (all rest : M R) (first : M S) (more : S → M R) (s : S) (old now new : World) → rest ≡ ◌>>=◌ first more → Hands all rest old now
    → ((next : S → World → Trials) → verdict (first next now) ≡ verdict (next s new)) → Hands all (more s) old new
hand_step all rest first more s old now new e h g next = h next ∙ ap (λ m. verdict (m next now)) e ∙ g (λ x. more x next)

pub hand_ends : {R S B C : Type 0} (all rest : M R) (first : M S) (more : S → M R) (old now v w : World) (end : CheckEnd) (read : B → S) (other : C → R)
    → rest ≡ ◌>>=◌ first more → Hands all rest old now → Gives first now (Err end) read v → Gives all old (Err end) other w
hand_ends all rest first more old now v w NoMemory read other e h g = tt
hand_ends all rest first more old now v w (Rule n a) read other e h g = λ next. h next ∙ ap (λ m. verdict (m next now)) e ∙ g (λ x. more x next)
