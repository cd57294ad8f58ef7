-- A plan, as the definitions see it.
use Rattle.call_rewriter.specs.Tagged as tagged
use Rattle.call_rewriter.specs.declared.site.Hooks.{Hooks}
use Rattle.call_rewriter.specs.declared.site.Callee.{Callee}
use Rattle.call_rewriter.specs.declared.site.Callee.TheVariants.{Malloc, Calloc, Realloc}

abbrev pub callee_seen : Callee → tagged.Callee
callee_seen Malloc = tagged.Malloc
callee_seen Calloc = tagged.Calloc
callee_seen Realloc = tagged.Realloc

abbrev pub hooks_seen : Hooks → tagged.Hooks
hooks_seen h = record { malloc = h.malloc; calloc = h.calloc; realloc = h.realloc }
