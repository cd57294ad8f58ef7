-- The verdict is that of the list of trials.
use Rattle.std.proofs.Common.{true, false, refl, inl, inr}
use Rattle.c_rules.specs.Trials.{tried, over}
use Rattle.c_rules.specs.Laws.{FineIsAllKept, AllKeptIsFine, BrokeIsFirst, FirstIsBroke}

pub fine_is_all_kept : FineIsAllKept
fine_is_all_kept (over v) w h = tt
fine_is_all_kept (tried moment rule at true more) w h = (refl, fine_is_all_kept more w h)
fine_is_all_kept (tried moment rule at false more) w h = cc

pub all_kept_is_fine : AllKeptIsFine
all_kept_is_fine (over v) h = (v, refl)
all_kept_is_fine (tried moment rule at true more) h = all_kept_is_fine more h.1
all_kept_is_fine (tried moment rule at false more) h = cc

pub broke_is_first : BrokeIsFirst
broke_is_first (over v) rule at h = cc
broke_is_first (tried moment r a true more) rule at h = inl (refl, broke_is_first more rule at h)
broke_is_first (tried moment r a false more) rule at h = inr (refl, cc h, cc h)

pub first_is_broke : FirstIsBroke
first_is_broke (over v) rule at h = absurd h
first_is_broke (tried moment r a true more) rule at (inl h) = first_is_broke more rule at h.1
first_is_broke (tried moment r a true more) rule at (inr h) = cc h.0
first_is_broke (tried moment r a false more) rule at (inl h) = cc h.0
first_is_broke (tried moment r a false more) rule at (inr h) = cc (h.1, h.2)
