mod Lists
mod Stories
