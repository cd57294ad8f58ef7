-- The trials of a unit's nodes, in their order: each has its moment, its rule, its node, and whether the node keeps the rule.
-- The moments go by the ends of nodes: node n ends at the moment 2 n + 1, and at 2 n those before it have ended.
use Rattle.std.specs.Prelude.{◌≡◌, ℕ, suc, ◌*◌, ◌⊎◌, Bool, false, IsTrue, if◌then◌else◌}
use Rattle.c_tree.specs.declared.operator.At.{At}
use Rattle.c_rules.specs.World.{World}

-- what is known when all trials are over stands last
pub data Trials : Type 0 where
  tried : (moment rule : ℕ) → At → (kept : Bool) → Trials → Trials
  over : World → Trials

-- every node keeps every rule
abbrev pub AllKept : Trials → Type 0
AllKept (over w) = Unit {0}
AllKept (tried moment rule at kept more) = IsTrue kept × AllKept more

-- every node keeps every rule up to this trial, which its node breaks
abbrev pub FirstBroken : Trials → ℕ → At → Type 0
FirstBroken (over w) r a = ⊥
FirstBroken (tried moment rule at kept more) r a = (IsTrue kept × FirstBroken more r a) ⊎ ((kept ≡ false) × (rule ≡ r) × (at ≡ a))

-- the first rule that is broken with its node, or what is known at the end
pub data Verdict : Type 0 where
  fine : World → Verdict
  broke : ℕ → At → Verdict

abbrev pub verdict : Trials → Verdict
verdict (over w) = fine w
verdict (tried moment rule at kept more) = if kept then verdict more else broke rule at

-- ---- what gives an A and goes on

abbrev pub M : Type 0 → Type 0
M A = (A → World → Trials) → World → Trials

abbrev pub give : {A : Type 0} → A → M A
give a = λ next w. next a w

abbrev pub ◌>>=◌ : {A B : Type 0} → M A → (A → M B) → M B
◌>>=◌ m f = λ next w. m (λ a. f a next) w

abbrev pub ◌>>◌ : {A B : Type 0} → M A → M B → M B
◌>>◌ m n = λ next w. m (λ _. n next) w

-- a rule is tried at the end of a node
abbrev pub keep : (rule : ℕ) → At → Bool → M (Unit {0})
keep rule at kept = λ next w. tried (suc (2 * at.id)) rule at kept (next tt w)

-- the rule on specifiers, 3, is tried as if the node that has them ended with them, which is before node n ends
abbrev pub keep_specifiers : (n : ℕ) → At → Bool → M (Unit {0})
keep_specifiers n at kept = λ next w. tried (2 * n) 3 at kept (next tt w)

abbrev pub world : M World
world = λ next w. next w w

abbrev pub change : (World → World) → M (Unit {0})
change f = λ next w. next tt (f w)
