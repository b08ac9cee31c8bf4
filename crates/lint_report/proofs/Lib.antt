pub mod ListedPlaces
