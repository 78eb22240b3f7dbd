-- A folder is read and shown.
use Rattle.std.proofs.Common.{◌≡◌, ℕ, List, ◌++◌, Option, None, Some, inl, inr, String, Global, codes, string_bytes, refl, sym, ap, ◌∙◌, subst}
use Rattle.tui_files_lib.specs.Browsing.{Begins, IsBegun, Lists, Opens, ShowsListing}
use Rattle.tui_files_lib.specs.Naming.{without_controls}
use Rattle.tui_files_lib.specs.declared.browser.Browser.{Browser}
use Rattle.tui_files_lib.specs.declared.folders.Listing.{Listing}

-- a path is read as a listing
read_as : (lists : Lists) (folder path : List ℕ) (answer reported : Option Listing) → path ≡ folder → lists path answer → answer ≡ reported → lists folder reported
read_as lists folder path answer reported same read is = subst (λ (p : List ℕ). lists p reported) same (subst (λ (o : Option Listing). lists path o) is read)

-- the head of a file is shown beside it
head_beside : (listing : Listing) (folder : List ℕ) (name : Option (List ℕ)) (old shown new : Browser) → ShowsListing listing folder name old shown →
    new ≡ record shown { head = new.head } → ShowsListing listing folder name old new
head_beside listing folder name old shown new shows stays = subst (λ (b : Browser). ShowsListing listing folder name old b) (sym stays) (record {
  folder_is = shows.folder_is;
  title_is = shows.title_is;
  order = shows.order;
  narrows = record {
    stays = ap (λ (b : Browser). record b { head = new.head }) shows.narrows.stays;
    rows = shows.narrows.rows;
    listed = shows.narrows.listed;
  };
})

pub opens_read : (lists : Lists) (folder path : List ℕ) (answer : Option Listing) (listing : Listing) (name : Option (List ℕ)) (old shown new : Browser) →
    path ≡ folder → lists path answer → answer ≡ Some listing → ShowsListing listing folder name old shown → new ≡ record shown { head = new.head } →
    Opens lists folder name old new
opens_read lists folder path answer listing name old shown new same read is shows stays = inl (record {
  listing = listing;
  read = read_as lists folder path answer (Some listing) same read is;
  shown = head_beside listing folder name old shown new shows stays;
})

pub opens_unread : (lists : Lists) (folder path again : List ℕ) (answer : Option Listing) (name : Option (List ℕ)) (old : Browser) (before notice : String Global) →
    path ≡ folder → lists path answer → answer ≡ None → again ≡ folder → string_bytes before ≡ without_controls again →
    string_bytes notice ≡ string_bytes before ++ codes " cannot be read" → Opens lists folder name old (record old { notice = notice })
opens_unread lists folder path again answer name old before notice same read is same_again shown longer = inr (record {
  read = read_as lists folder path answer None same read is;
  stays = refl;
  reported = longer ∙ ap (λ (bs : List ℕ). bs ++ codes " cannot be read") (shown ∙ ap without_controls same_again);
})

pub begins_read : (lists : Lists) (folder path : List ℕ) (answer : Option Listing) (listing : Listing) (shown new : Browser) → lists folder answer →
    answer ≡ Some listing → path ≡ folder → IsBegun listing path shown → new ≡ record shown { head = new.head } → Begins lists folder new
begins_read lists folder path answer listing shown new read is same begun stays = record {
  listing = listing;
  read = read_as lists folder folder answer (Some listing) refl read is;
  shown = subst (λ (b : Browser). IsBegun listing folder b) (sym stays) (subst (λ (p : List ℕ). IsBegun listing p (record shown { head = new.head })) same (record {
    folder_is = begun.folder_is;
    title_is = begun.title_is;
    order = begun.order;
    rows = begun.rows;
    listed = begun.listed;
    page = begun.page;
    hidden = begun.hidden;
    filter_text = begun.filter_text;
    is_typing = begun.is_typing;
    silent = begun.silent;
  }));
}
