-- A list with room.
use Rattle.std.specs.Prelude.{ℕ, List, refl}
use Rattle.std.specs.Coded.{Coded, code_by, coded×, coded_ℕ, coded_list}

-- the items, and how many more can be pushed without taking memory
pub record Listed (T : Type 0) : Type 0 where
  pub items : List T
  pub room : ℕ

abbrev pub listed_code : {T : Type 0} → Coded T → Coded (Listed T)
listed_code c = code_by (List _ × ℕ) (coded× (coded_list c) coded_ℕ) (λ l. (l.items, l.room)) (λ p. record { items = p.0; room = p.1 }) (λ _. refl)
