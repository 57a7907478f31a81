-- What depends on the geometry and the shard alone.
use Rattle.std.proofs.Common.{◌≡◌, ℕ, List, [], ◌∷◌, sym, subst}
use Rattle.std.specs.List.{AllByRecursion}
use Rattle.r6_layout.specs.Shape.{Shape}
use Rattle.r6_world.specs.Layouts.{IsRowOf}
use Rattle.r6_world.specs.Geometries.{layout_of}
use Rattle.r6_world.specs.declared.values.Request.{Request}
use Rattle.r6_frames.specs.declared.frames.Frames.{Frames}
use Rattle.r6_frames.specs.Calls.{HasOneBlock, IsRequestOf}
use Rattle.r6_core.specs.declared.queued.Queued.{Queued}
use Rattle.r6_core.specs.Queued.{request_in}
use Rattle.r6_core.specs.Inside.{AreOwnRows, IsQueuedOf}

pub request_kept : (old new : Frames) (request : Request) → new.geometry ≡ old.geometry → new.shard ≡ old.shard → IsRequestOf old request → IsRequestOf new request
request_kept old new request geometry shard is =
    record {
      there = rw geometry is.there;
      own = rw (geometry, shard) is.own;
      sized = rw geometry is.sized;
    }

pub requests_kept : (old new : Frames) (requests : List Queued) → new.geometry ≡ old.geometry → new.shard ≡ old.shard
    → AllByRecursion (IsQueuedOf old) requests → AllByRecursion (IsQueuedOf new) requests
requests_kept old new [] geometry shard all = tt
requests_kept old new (request ∷ requests) geometry shard all = (
  record { request = request_kept old new (request_in request) geometry shard all.0.request; read = all.0.read },
  requests_kept old new requests geometry shard all.1,
)

pub sizes_kept : (old new : Shape) (requests : List Request) → new ≡ old → AllByRecursion (HasOneBlock old) requests → AllByRecursion (HasOneBlock new) requests
sizes_kept old new requests same all = subst (λ (shape : Shape). AllByRecursion (HasOneBlock shape) requests) (sym same) all

pub waiting_sized : (fs : Frames) (requests : List Queued) → AllByRecursion (IsQueuedOf fs) requests → AllByRecursion (λ q. HasOneBlock fs.geometry (request_in q)) requests
waiting_sized fs [] all = tt
waiting_sized fs (request ∷ requests) all = (all.0.request.sized.length_is, waiting_sized fs requests all.1)

row_kept : (old new : Frames) (row : ℕ) → new.geometry ≡ old.geometry → new.shard ≡ old.shard → IsRowOf (layout_of old.geometry) old.shard row
    → IsRowOf (layout_of new.geometry) new.shard row
row_kept old new row geometry shard is =
    subst (λ n. IsRowOf (layout_of new.geometry) n row) (sym shard) (subst (λ (g : Shape). IsRowOf (layout_of g) old.shard row) (sym geometry) is)

pub own_rows_kept : (old new : Frames) (check_row repair_row : ℕ) → new.geometry ≡ old.geometry → new.shard ≡ old.shard → AreOwnRows old check_row repair_row
    → AreOwnRows new check_row repair_row
own_rows_kept old new check_row repair_row geometry shard own =
    (row_kept old new check_row geometry shard own.0, row_kept old new repair_row geometry shard own.1)
